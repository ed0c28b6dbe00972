use Rattle.std.proofs.Common.{sym, ◌∙◌}
use Rattle.cel_patterns.proofs.Answered.{kept_there}
use Rattle.cel_patterns.proofs.book.PatternBook.has.Goals as goal

pub returns-in-Some : goal.returns-in-Some
returns-in-Some c = λ same. kept_there c.args.self.now.patterns.items c.deref.result.now c.args.slot c.args.pattern.now c.as_str.result.now c.in-Some.kept.now
    c.deref.ensures.value c.in-Some.ensures.lookup.3.0 c.in-Some.ensures.lookup.3.1 c.as_str.ensures.value (sym c.eq.ensures ∙ same)
