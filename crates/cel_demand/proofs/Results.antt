-- Results that are alike, and further steps on them.
use Rattle.std.proofs.Common.{◌≡◌, ℕ, List, [], ◌∷◌, map, Option, Some, None, Result, Ok, Err, is_some, refl, ap, subst, inl, inr}
use Rattle.std.specs.Option.{option_map_or}
use Rattle.cel_semantics.specs.Members.{selection, has_member}
use Rattle.cel_semantics.specs.Outcome.{Outcome, and_then}
use Rattle.cel_semantics.specs.Ranges.{items_list, range_of}
use Rattle.cel_value.specs.Data.{Data, bool, map_of, text_key}
use Rattle.cel_value.specs.Faults.{Fault, no_key}
use Rattle.cel_value.specs.Find.{find}
use Rattle.cel_demand.specs.Alike.{OptionsAlike, ListsAlike, Alike, MembersAlike}
use Rattle.cel_demand.specs.Part.{Part, nothing, whole, each_item, some_members, no_members, member}
use Rattle.cel_demand.proofs.Parts.{alike-refl, lists-refl, lists_case, maps_case}

-- both values that are alike, or both the same error
abbrev pub ResultsAlike : {A : Type 0} → (A → A → Type 0) → Result A Fault → Result A Fault → Type 0
ResultsAlike R (Ok v) (Ok w) = R v w
ResultsAlike R (Ok v) (Err b) = ⊥
ResultsAlike R (Err a) (Ok w) = ⊥
ResultsAlike R (Err a) (Err b) = a ≡ b

results-refl : {A : Type 0} (R : A → A → Type 0) → ((v : A) → R v v) → (r : Result A Fault) → ResultsAlike R r r
results-refl R same (Ok v) = same v
results-refl R same (Err a) = refl

-- equal results are alike in each part
pub results_equal : (p : Part) (r s : Outcome) → r ≡ s → ResultsAlike (Alike p) r s
results_equal p r s e = subst (λ z. ResultsAlike (Alike p) r z) e (results-refl (Alike p) (alike-refl p) r)

-- results that are alike in the whole are equal
pub whole_results : (r s : Outcome) → ResultsAlike (Alike whole) r s → r ≡ s
whole_results (Ok v) (Ok w) h = ap Ok h
whole_results (Ok v) (Err b) h = absurd h
whole_results (Err a) (Ok w) h = absurd h
whole_results (Err a) (Err b) h = ap Err h

-- a step after results that are alike
pub results_then : {A B : Type 0} (R : A → A → Type 0) (S : B → B → Type 0) (g h : A → Result B Fault) → ((v w : A) → R v w → ResultsAlike S (g v) (h w)) → (r s : Result A Fault) → ResultsAlike R r s → ResultsAlike S (and_then r g) (and_then s h)
results_then R S g h f (Ok v) (Ok w) k = f v w k
results_then R S g h f (Ok v) (Err b) k = absurd k
results_then R S g h f (Err a) (Ok w) k = absurd k
results_then R S g h f (Err a) (Err b) k = k

-- the value, or the same error if there is none
pub found_alike : {A : Type 0} (R : A → A → Type 0) (a : Fault) (o q : Option A) → OptionsAlike R o q → ResultsAlike R (option_map_or Ok o (Err a)) (option_map_or Ok q (Err a))
found_alike R a None None h = refl
found_alike R a None (Some w) h = absurd h
found_alike R a (Some v) None h = absurd h
found_alike R a (Some v) (Some w) h = h

there_alike : {A : Type 0} (R : A → A → Type 0) (o q : Option A) → OptionsAlike R o q → is_some o ≡ is_some q
there_alike R None None h = refl
there_alike R None (Some w) h = absurd h
there_alike R (Some v) None h = absurd h
there_alike R (Some v) (Some w) h = refl

pub selection_alike : (x : List ℕ) (p : Part) (v w : Data) → Alike (some_members (member x p no_members)) v w → ResultsAlike (Alike p) (selection (text_key x) v) (selection (text_key x) w)
selection_alike x p v w h = elim h as (λ _. ResultsAlike (Alike p) (selection (text_key x) v) (selection (text_key x) w)) [
  | inl e ↦ results_equal p (selection (text_key x) v) (selection (text_key x) w) (ap (selection (text_key x)) e)
  | inr k ↦ maps_case (λ es fs. MembersAlike (member x p no_members) (λ x. find (text_key x) es) (λ x. find (text_key x) fs)) (λ v w. ResultsAlike (Alike p) (selection (text_key x) v) (selection (text_key x) w))
      (λ es fs l. found_alike (Alike p) (no_key (text_key x)) (find (text_key x) es) (find (text_key x) fs) l.0) v w k
]

pub has_alike : (x : List ℕ) (p : Part) (v w : Data) → Alike (some_members (member x nothing no_members)) v w → ResultsAlike (Alike p) (has_member (text_key x) v) (has_member (text_key x) w)
has_alike x p v w h = elim h as (λ _. ResultsAlike (Alike p) (has_member (text_key x) v) (has_member (text_key x) w)) [
  | inl e ↦ results_equal p (has_member (text_key x) v) (has_member (text_key x) w) (ap (has_member (text_key x)) e)
  | inr k ↦ maps_case (λ es fs. MembersAlike (member x nothing no_members) (λ x. find (text_key x) es) (λ x. find (text_key x) fs)) (λ v w. ResultsAlike (Alike p) (has_member (text_key x) v) (has_member (text_key x) w))
      (λ es fs l. results_equal p (has_member (text_key x) (map_of es)) (has_member (text_key x) (map_of fs)) (ap (λ b. Ok (bool b)) (there_alike (Alike nothing) (find (text_key x) es) (find (text_key x) fs) l.0))) v w k
]

-- the range of a macro
pub range_alike : (name : List ℕ) (p : Part) (v w : Data) → Alike (each_item p) v w → ResultsAlike (ListsAlike (Alike p)) (range_of name v) (range_of name w)
range_alike name p v w h = elim h as (λ _. ResultsAlike (ListsAlike (Alike p)) (range_of name v) (range_of name w)) [
  | inl e ↦ subst (λ z. ResultsAlike (ListsAlike (Alike p)) (range_of name v) (range_of name z)) e (results-refl (ListsAlike (Alike p)) (lists-refl (Alike p) (alike-refl p)) (range_of name v))
  | inr k ↦ lists_case (λ ds es. ListsAlike (Alike p) (items_list ds) (items_list es)) (λ v w. ResultsAlike (ListsAlike (Alike p)) (range_of name v) (range_of name w)) (λ ds es l. l) v w k
]

-- the images of items
pub images_alike : {A B : Type 0} (R : A → A → Type 0) (S : B → B → Type 0) (g h : A → B) → ((v w : A) → R v w → S (g v) (h w)) → (vs ws : List A) → ListsAlike R vs ws → ListsAlike S (map g vs) (map h ws)
images_alike R S g h f [] [] k = tt
images_alike R S g h f [] (w ∷ ws) k = absurd k
images_alike R S g h f (v ∷ vs) [] k = absurd k
images_alike R S g h f (v ∷ vs) (w ∷ ws) k = (f v w k.0, images_alike R S g h f vs ws k.1)

pub lists_equal : {A : Type 0} (R : A → A → Type 0) → ((v w : A) → R v w → v ≡ w) → (vs ws : List A) → ListsAlike R vs ws → vs ≡ ws
lists_equal R same [] [] h = refl
lists_equal R same [] (w ∷ ws) h = absurd h
lists_equal R same (v ∷ vs) [] h = absurd h
lists_equal R same (v ∷ vs) (w ∷ ws) h = λ i. same v w h.0 i ∷ lists_equal R same vs ws h.1 i
