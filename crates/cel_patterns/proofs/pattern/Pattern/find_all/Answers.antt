use Rattle.std.proofs.Common.{ap, ◌∙◌, string_bytes, String, Global}
use Rattle.cel_patterns.specs.Book.{pattern_of_text}
use Rattle.cel_patterns.proofs.Answered.{regex_finds}
use Rattle.cel_patterns.proofs.pattern.Pattern.find_all.Goals as goal

pub returns-clause-found : goal.returns-clause-found
returns-clause-found c = λ re reads.
    regex_finds _ c.args.text.now c.args.limit c.in-Some.regex _ c.in_ok-spans-in-Some.spans.items (c.prepare.new.self.same c.in-Some.regex c.in-Some.is) (λ k. (c.type_inv.text k).fits)
    c.in_ok-matcher-in-Some.ensures.pattern c.in_ok-spans-in-Some.ensures.value re
    (ap (λ (s : String Global). pattern_of_text (string_bytes s)) c.in_ok-prepare.ensures.text ∙ reads)
