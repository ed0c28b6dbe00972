use Rattle.std.proofs.Common.{ap, ◌∙◌, string_bytes, String, Global}
use Rattle.cel_patterns.specs.Book.{pattern_of_text}
use Rattle.cel_patterns.proofs.Answered.{regex_answers}
use Rattle.cel_patterns.proofs.pattern.Pattern.searched.Goals as goal

pub returns : goal.returns
returns c = record {
  found = λ re reads.
      regex_answers _ c.args.text.now c.in-Some.regex _ c.is_match.result (c.prepare.new.self.same c.in-Some.regex c.in-Some.is) (λ k. (c.type_inv.text k).fits)
      c.in_ok-matcher-in-Some.ensures.pattern c.is_match.ensures.found re
      (ap (λ (s : String Global). pattern_of_text (string_bytes s)) c.in_ok-prepare.ensures.text ∙ reads);
}
