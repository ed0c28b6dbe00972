use Rattle.std.proofs.Common.{◌∙◌, ap, is_some, Option, Some, ℕ}
use Rattle.cel_patterns.proofs.Entries.{entries-IsBook, entries-agree, entries-same}
use Rattle.cel_patterns.proofs.Answered.{built_matched, refused_matched, of_some, matched_refused}
use Rattle.cel_patterns.proofs.book.PatternBook.matches.Goals as goal

pub returns-in_err-slot-clause-book : goal.returns-in_err-slot-clause-book
returns-in_err-slot-clause-book c = entries-IsBook _

pub returns-in_err-is_match_at-in-Some-clause-kept : goal.returns-in_err-is_match_at-in-Some-clause-kept
returns-in_err-is_match_at-in-Some-clause-kept c = entries-agree _ _ _ c.is_match_at.ensures.same c.in_ok-slot.ensures.kept

pub returns-in_err-is_match_at-in-Some-clause-others : goal.returns-in_err-is_match_at-in-Some-clause-others
returns-in_err-is_match_at-in-Some-clause-others c = λ other apart. entries-same _ _ c.is_match_at.ensures.same other ∙ c.in_ok-slot.ensures.others other apart

pub returns-in_err-is_match_at-in-Some-clause-book : goal.returns-in_err-is_match_at-in-Some-clause-book
returns-in_err-is_match_at-in-Some-clause-book c = entries-IsBook _

pub returns-in_ok-is_match_at-in-Some-clause-kept : goal.returns-in_ok-is_match_at-in-Some-clause-kept
returns-in_ok-is_match_at-in-Some-clause-kept c = entries-agree _ _ _ c.is_match_at.ensures.same c.in_ok-slot.ensures.kept

pub returns-in_ok-is_match_at-in-Some-clause-others : goal.returns-in_ok-is_match_at-in-Some-clause-others
returns-in_ok-is_match_at-in-Some-clause-others c = λ other apart. entries-same _ _ c.is_match_at.ensures.same other ∙ c.in_ok-slot.ensures.others other apart

pub returns-in_ok-is_match_at-in-Some-clause-held : goal.returns-in_ok-is_match_at-in-Some-clause-held
returns-in_ok-is_match_at-in-Some-clause-held c = ap is_some (entries-same _ _ c.is_match_at.ensures.same c.args.pattern.now ∙ c.in_ok-slot.ensures.answer ∙ ap (λ (o : Option ℕ). Some (is_some o)) c.in-Some.is)

pub returns-in_ok-is_match_at-in-Some-clause-book : goal.returns-in_ok-is_match_at-in-Some-clause-book
returns-in_ok-is_match_at-in-Some-clause-book c = entries-IsBook _

pub returns-in_ok-is_match_at-in-Some-clause-answer : goal.returns-in_ok-is_match_at-in-Some-clause-answer
returns-in_ok-is_match_at-in-Some-clause-answer c =
    built_matched _ c.args.pattern.now c.args.text.now (entries-IsBook c.is_match_at.new.self) (entries-same _ _ c.is_match_at.ensures.same c.args.pattern.now ∙ c.in_ok-slot.ensures.answer ∙ ap (λ (o : Option ℕ). Some (is_some o)) c.in-Some.is)
    c.in_ok-is_match_at-in-Some.field-0 (c.in_ok-is_match_at-in-Some.ensures.found c.args.pattern.now (of_some _ c.in-Some.slot _ c.in-Some.is c.in_ok-slot.ensures.slot))

pub returns-in_ok-is_match_at-in-Some-clause-refused : goal.returns-in_ok-is_match_at-in-Some-clause-refused
returns-in_ok-is_match_at-in-Some-clause-refused c =
    matched_refused _ c.args.pattern.now c.args.text.now _ (entries-IsBook c.is_match_at.new.self) (returns-in_ok-is_match_at-in-Some-clause-answer c)

pub returns-in-None-clause-book : goal.returns-in-None-clause-book
returns-in-None-clause-book c = entries-IsBook _

pub returns-in-None-clause-answer : goal.returns-in-None-clause-answer
returns-in-None-clause-answer c = refused_matched _ c.args.pattern.now c.args.text.now (c.in_ok-slot.ensures.answer ∙ ap (λ (o : Option ℕ). Some (is_some o)) c.in-None.is)

pub returns-in-None-clause-refused : goal.returns-in-None-clause-refused
returns-in-None-clause-refused c =
    matched_refused _ c.args.pattern.now c.args.text.now _ (entries-IsBook c.ask.new.self) (returns-in-None-clause-answer c)
