-- Reading a format string character by character.
use Rattle.std.proofs.Common.{◌≡◌, ℕ, ◌+◌, ◌<◌, arith, List, [], ◌∷◌, ◌++◌, length, drop, get_or, map, String, Global, Option, Some, None, Ok, Err, refl, ap, sym, ◌∙◌, option_map}
use Rattle.std.specs.Prelude.{Result, IfOk}
use Rattle.std.proofs.lemmas.List.{drop_more, drop_all, length_push}
use Rattle.cel_value.specs.Data.{Data, Items}
use Rattle.cel_value.specs.Faults.{fault_view}
use Rattle.cel_value.specs.Parts.{items_in}
use Rattle.cel_value.specs.View.{view, items_view}
use Rattle.cel_value.specs.declared.error.ExecutionError.{ExecutionError}
use Rattle.cel_value.specs.declared.value.Value.{Value}
use Rattle.cel_semantics.specs.Ranges.{items_list}
use Rattle.cel_semantics.proofs.Lookups.{items_list-items_of}
use Rattle.kube_types.specs.Refused.{Refused}
use Rattle.kube_functions_format.specs.Formatted.{before, text_of_pieces}
use Rattle.kube_functions_format.specs.Pieces.{pieces}
use Rattle.kube_functions_format.specs.Progress.{written_on, unless_fault, shown_view}
use Rattle.kube_functions_format.specs.Verbs.{Shown}
use Rattle.kube_functions_format.specs.declared.reading.Mark.{Mark}
use Rattle.kube_functions_format.specs.declared.reading.Mark.TheVariants.{Outside}

pub listed : (v : Data) (xs : List Value) (ds : Items) → items_view xs ≡ ds → Some ds ≡ items_in v → Some (map view xs) ≡ option_map items_list (items_in v)
listed v xs ds e h = ap Some (sym (items_list-items_of (map view xs))) ∙ ap (λ es. Some (items_list es)) e ∙ ap (option_map items_list) h

before_nothing : (r : Shown) → r ≡ before [] r
before_nothing (Ok t) = refl
before_nothing (Err e) = refl

-- nothing has been read
pub begun : (items : List Data) (cs none : List ℕ) → none ≡ [] → text_of_pieces items 0 (pieces cs) ≡ written_on items none 0 Outside cs
begun items cs none e = before_nothing (text_of_pieces items 0 (pieces cs)) ∙ ap (λ t. written_on items t 0 Outside cs) (sym e)

-- one of the remaining characters is read
pub next : (cs yielded : List ℕ) (c : ℕ) → length yielded < length cs → c ≡ get_or cs (length yielded) c → drop (length yielded) cs ≡ c ∷ drop (length (yielded ++ c ∷ [])) cs
next cs yielded c lt is =
    drop_more cs (length yielded) c lt ∙ ap (λ d. d ∷ drop (length yielded + 1) cs) (sym is) ∙ ap (λ n. c ∷ drop n cs) (sym (length_push yielded c))

-- no characters remain
pub no_more : (items : List Data) (done : List ℕ) (k : ℕ) (m : Mark) (cs yielded : List ℕ) → length yielded ≡ length cs → written_on items done k m (drop (length yielded) cs) ≡ written_on items done k m []
no_more items done k m cs yielded e = ap (written_on items done k m) (drop_all (length yielded) cs (omega arith))

pub goes_on : (o : Option ExecutionError) (r : Shown) → o ≡ None → unless_fault (option_map fault_view o) r ≡ r
goes_on o r e = ap (λ p. unless_fault (option_map fault_view p) r) e

pub stops : (o : Option ExecutionError) (fault : ExecutionError) (r : Shown) → o ≡ Some fault → unless_fault (option_map fault_view o) r ≡ Err (fault_view fault)
stops o fault r e = ap (λ p. unless_fault (option_map fault_view p) r) e

-- the finished text is the whole text
pub ends : (r : Result (Result (String Global) ExecutionError) Refused) (out : List ℕ) (k : ℕ) (m : Mark) (items : List Data) (whole : Shown) → IfOk r (λ s. (ds : List Data) → shown_view s ≡ written_on ds out k m []) → whole ≡ written_on items out k m [] → IfOk r (λ s. shown_view s ≡ whole)
ends (Ok s) out k m items whole h e = h items ∙ sym e
ends (Err x) out k m items whole h e = tt
