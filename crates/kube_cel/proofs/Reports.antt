-- The report of a list of errors.
use Rattle.cel_patterns.proofs.Entries.{faithful-IsBook}
use Rattle.cel.specs.Book.{Book, Extends, IsBook}
use Rattle.cel.specs.PatternBook.{PatternBook}
use Rattle.cel.specs.Entries.{entries_of}
use Rattle.kube_cel.specs.Answers.{found_in, report_of, answer_view}
use Rattle.kube_cel_walk.specs.declared.error.ValidationError.{ValidationError}
use Rattle.kube_cel_walk.specs.declared.error.ValidationErrors.{ValidationErrors}
use Rattle.kube_cel_walk.specs.ErrorLists.{errors_in}
use Rattle.kube_cel_walk.specs.Errors.{ErrorData, error_view}
use Rattle.kube_schema_rules.proofs.Candidates.{CountsAll, visit_answers}
use Rattle.kube_schema.specs.Visit.{Visit, goes}
use Rattle.kube_schema.specs.Walk.{AreFoundAtPlaces}
use Rattle.kube_cel_walk.specs.Answers.{answer, verdicts, IsAnswer}
use Rattle.kube_cel_walk.specs.WalkAccessors.{WalkAccessors}
use Rattle.std.proofs.Common.{◌≡◌, ◌<◌, List, [], ◌∷◌, map, length, Result, Ok, Err, IfOk, refl, sym, subst, ap, arith}

pub agrees_itself : (b : Book) → Extends b b
agrees_itself b = record { keeps = λ text built e. e }

-- the view of a `PatternBook` is a book
pub shown_is_book : (book : PatternBook) → IsBook (entries_of book)
unfolding entries_of
shown_is_book book = faithful-IsBook book.answers book.faithful

pub none_reported : (es : List ValidationError) (found : List ErrorData) → length es ≡ 0 → map error_view es ≡ found → Ok tt ≡ report_of found
none_reported [] found h q = ap report_of q
none_reported (e ∷ es) found h q = absurd (omega arith)

pub some_reported : (es : List ValidationError) (found : List ErrorData) → 0 < length es → map error_view es ≡ found → Err (map error_view es) ≡ report_of found
some_reported [] found h q = absurd (omega arith)
some_reported (e ∷ es) found h q = ap report_of q

-- the errors that are reported are the errors that were found
pub reported_found : (r : Result (Unit {0}) ValidationErrors) (found : List ErrorData) → answer_view r ≡ report_of found → found_in r ≡ found
reported_found (Ok u) [] q = refl
reported_found (Ok u) (e ∷ es) q = cc
reported_found (Err x) [] q = cc
reported_found (Err x) (e ∷ es) q = let same : map error_view (errors_in x) ≡ e ∷ es = cc in same

-- the computed answer consists of the errors at the places
pub is_answer : {S : Type 0} (form : WalkAccessors S) → CountsAll form.steps → (b : Book) (root : Visit S) (found : List ErrorData) → found ≡ answer form b 65 root → IsAnswer form b root found
unfolding IsAnswer answer
is_answer form all b root found e = subst (λ f. AreFoundAtPlaces (goes form.steps) (verdicts form b) 65 root f) (sym e) (visit_answers form.steps all (verdicts form b) 65 root)

pub if_ok_both : {T E : Type 0} {P Q R : T → Type 0} (r : Result T E) → ((x : T) → P x → Q x → R x) → IfOk r P → IfOk r Q → IfOk r R
if_ok_both (Ok x) f p q = f x p q
if_ok_both (Err e) f p q = tt
