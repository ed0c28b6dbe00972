-- The meaning of the exit statuses.
use Rattle.cel_patterns.proofs.Books.{HoldsForExtensions-here}
use Rattle.cel.specs.Book.{Book, IsBook}
use Rattle.cel.specs.Extensions.{HoldsForExtensions}
use Rattle.cel.specs.Bindings.{Bindings}
use Rattle.cel.specs.Meaning.{meaning}
use Rattle.cel.specs.Outcome.{Outcome}
use Rattle.cel_syntax.specs.Reading.{tree_of}
use Rattle.cel_syntax.specs.declared.error.ParseErrors.{ParseErrors}
use Rattle.cel_syntax.specs.Term.{Term}
use Rattle.celcheck_cli.specs.declared.eval.Found.{Found}
use Rattle.celcheck_cli.specs.declared.eval.Found.TheVariants as found
use Rattle.celcheck_cli.specs.declared.status.Stop.{Stop}
use Rattle.celcheck_cli.specs.Runs.{IfErrors}
use Rattle.celcheck_cli.specs.Reports.{IsEvaluated, IsFound, IsReportedAs, found_line, found_status, results_status}
use Rattle.kube_cel.specs.ValidationErrors.{ValidationErrors}
use Rattle.kube_cel.specs.VapResult.{VapResult}
use Rattle.kube_cel.specs.Validations.{result_view}
use Rattle.kube_functions.specs.Kube.{all_library}
use Rattle.kube_types.specs.Refused.{Refused}
use Rattle.serde_json.specs.declared.value.Value.{Value}
use Rattle.serde_json.specs.View.{view}
use Rattle.std.proofs.Common.{◌≡◌, ◌+◌, ◌<◌, ◌≤◌, ℕ, List, [], ◌∷◌, ◌++◌, get_or, length, map, drop, true, false, if◌then◌else◌, Option, Some, None, option_map, Result, Ok, Err, IfOk, refl, sym, ap, subst, ◌∙◌}
use Rattle.std.proofs.lemmas.List.{at_drop_all, at_drop_more}
use Rattle.std.specs.Option.{option_copied}
use denote.Ref.{Bor}

pub errors_reported : (P : Result (Unit {0}) ValidationErrors → Type 0) (Q : ValidationErrors → Type 0) (judged : Result (Result (Unit {0}) ValidationErrors) Stop)
    → IfOk judged P → IfErrors judged Q → (errors : ValidationErrors) × P (Err errors) × Q errors
errors_reported P Q (Ok (Ok u)) p q = absurd q
errors_reported P Q (Ok (Err errors)) p q = (errors, p, q)
errors_reported P Q (Err stop) p q = absurd q

-- the view of a borrowed value is that of the value
pub lent_view : (o : Option (Bor Value)) → option_map (λ v. view v.now) o ≡ option_map view (option_copied o)
lent_view None = refl
lent_view (Some v) = refl

-- ---- `eval`

abbrev no_book : Book
no_book text = None

no_book-IsBook : IsBook no_book
no_book-IsBook text h = let none : None ≡ Some true = h in absurd (cc)

-- a text that derives no tree
pub unread_found : (text : List ℕ) (errors : ParseErrors) → None ≡ tree_of text → IsFound text (found.Unread errors)
unread_found text errors h = record {
  book = no_book;
  is_book = no_book-IsBook;
  reported = subst (λ o. IsReportedAs (option_map (λ t. meaning all_library no_book t []) o) (found.Unread errors)) h (refl, refl);
}

-- a text with this tree, whose execution had this outcome
pub came_to : (text : List ℕ) (t : Term) (e : Bindings) (o r : Outcome) (f : Found) → Some t ≡ tree_of text → e ≡ [] → o ≡ r
    → (book : Book) × IsBook book × HoldsForExtensions book r (λ b. meaning all_library b t e) → IsReportedAs (Some o) f → IsFound text f
came_to text t e o r f reads empty same holds_for_all reported =
    let b = holds_for_all.0 in
    record {
      book = b;
      is_book = holds_for_all.1;
      reported = subst (λ x. IsReportedAs x f) (ap Some (same ∙ HoldsForExtensions-here holds_for_all.2 ∙ ap (meaning all_library b t) empty) ∙ ap (option_map (λ s. meaning all_library b s [])) reads) reported;
    }

pub if_found : (text : List ℕ) (o : Outcome) (r : Result Found Refused) → ((f : Found) → IsReportedAs (Some o) f → IsFound text f) → IfOk r (IsReportedAs (Some o)) → IfOk r (IsFound text)
if_found text o (Ok f) g h = g f h
if_found text o (Err e) g h = h

pub evaluated_so : (text : List ℕ) (status : ℕ) (W : List ℕ → Type 0) (f : Found) → IsFound text f → (status ≡ found_status f) × W (found_line f ++ 10 ∷ []) → IsEvaluated text status W
evaluated_so text status W f is reported = record {
  book = is.book;
  is_book = is.is_book;
  status_is = reported.0 ∙ is.reported.0;
  written = subst (λ l. W (l ++ 10 ∷ [])) is.reported.1 reported.1;
}

-- ---- `vap`

-- the results after one that passed
pub passed_on : (xs : List VapResult) (i : ℕ) (x : VapResult) → i < length xs → x ≡ get_or xs i x → x.passed ≡ true
    → results_status (map result_view (drop i xs)) ≡ results_status (map result_view (drop (i + 1) xs))
unfolding results_status
passed_on xs i x below is passes =
    let rest = results_status (map result_view (drop (i + 1) xs)) in
    at_drop_more (λ rs. results_status (map result_view rs)) xs i x below ∙ ap (λ r. if r.passed then rest else 1) (sym is) ∙ ap (λ b. if b then rest else 1) passes

-- the results from one that didn't pass
pub failed_here : (xs : List VapResult) (i : ℕ) (x : VapResult) → i < length xs → x ≡ get_or xs i x → x.passed ≡ false
    → results_status (map result_view (drop i xs)) ≡ 1
unfolding results_status
failed_here xs i x below is fails =
    let rest = results_status (map result_view (drop (i + 1) xs)) in
    at_drop_more (λ rs. results_status (map result_view rs)) xs i x below ∙ ap (λ r. if r.passed then rest else 1) (sym is) ∙ ap (λ b. if b then rest else 1) fails

pub none_left : (xs : List VapResult) (i : ℕ) → length xs ≤ i → results_status (map result_view (drop i xs)) ≡ 0
unfolding results_status
none_left xs i past = at_drop_all (λ rs. results_status (map result_view rs)) xs i past
