use Rattle.std.proofs.Common.{◌≡◌, ◌∙◌, sym, ap, Bool, true, false, Option, None, Some, option_map, is_some}
use Rattle.cel_patterns.specs.Entries.{entries_of}
use Rattle.cel_patterns.proofs.book.PatternBook.ask.Goals as goal

pub returns-in-Some-None-clause-answer : goal.returns-in-Some-None-clause-answer
unfolding entries_of
returns-in-Some-None-clause-answer c = ap (option_map is_some) (sym c.in-Some-None.ensures.value ∙ ap Some c.in-Some-None.field-0-is)

pub returns-then-has-clause-answer : goal.returns-then-has-clause-answer
unfolding entries_of
returns-then-has-clause-answer c = ap (option_map is_some) (sym c.in-Some-Some.ensures.value ∙ ap Some c.in-Some-Some.field-0-is)

pub build-requires : goal.build-requires
unfolding entries_of
build-requires c = ap (option_map is_some) (sym c.in-Some-Some.ensures.value ∙ ap Some c.in-Some-Some.field-0-is)

pub build-requires-in-None : goal.build-requires-in-None
unfolding entries_of
build-requires-in-None c = ap (option_map is_some) (sym c.in-None.ensures.value)

-- the text has no refusal in the book
not_refused : {A : Type 0} (o : Option Bool) → o ≡ Some true → o ≡ Some false → A
not_refused o built refused = let no : Some true ≡ Some false = sym built ∙ refused in cc no

none_refused : {A : Type 0} (o : Option Bool) → o ≡ None → o ≡ Some false → A
none_refused o none refused = let no : None ≡ Some false = sym none ∙ refused in cc no

pub returns-then-has-clause-once : goal.returns-then-has-clause-once
unfolding entries_of
returns-then-has-clause-once c = not_refused _ (ap (option_map is_some) (sym c.in-Some-Some.ensures.value ∙ ap Some c.in-Some-Some.field-0-is))

pub returns-else-has-clause-once : goal.returns-else-has-clause-once
unfolding entries_of
returns-else-has-clause-once c = not_refused _ (ap (option_map is_some) (sym c.in-Some-Some.ensures.value ∙ ap Some c.in-Some-Some.field-0-is))

pub returns-in-None-clause-once : goal.returns-in-None-clause-once
unfolding entries_of
returns-in-None-clause-once c = none_refused _ (ap (option_map is_some) (sym c.in-None.ensures.value))
