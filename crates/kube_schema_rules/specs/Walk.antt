-- Trusted by the headline.
-- The places that steps lead to, in order, and what is found at them, for any kind of visit.
use Rattle.kube_schema_rules.specs.Step.{Step, place_cmp}
use Rattle.std.specs.List.{flat_map}
use Rattle.std.specs.List.Sorted.{IsStrictlySortedBy}
use Rattle.std.specs.Prelude.{◌≡◌, ◌≤◌, ℕ, zero, suc, List, [], ◌∷◌, map, length, Option, Some, None, option_and_then, IsSome, Contains}

-- f of an optional argument; the empty list if there is none
abbrev pub if_some : {S A : Type 0} → (S → List A) → Option S → List A
if_some f None = []
if_some f (Some s) = f s

module _ {S : Type 0} (goes : Step → S → Option S) where
  -- where the steps lead from s, if each is allowed where the steps before it lead
  unfoldable pub leads : List Step → S → Option S
  leads [] s = Some s
  leads (p ∷ ps) s = option_and_then (leads ps) (goes p s)

  -- a place: at most n steps, each allowed where the steps before it lead
  pub record IsPlace (n : ℕ) (s : S) (p : List Step) : Type 0 where
    pub short : length p ≤ n
    pub allowed : IsSome (leads p s)

  -- the list of exactly the places, each once, in order
  pub record ArePlaces (n : ℕ) (s : S) (ps : List (List Step)) : Type 0 where
    pub ordered : IsStrictlySortedBy place_cmp ps
    pub sound : (p : List Step) → Contains ps p → IsPlace n s p
    pub complete : (p : List Step) → IsPlace n s p → Contains ps p

  -- what is found at each place of at most n steps, concatenated in the order of the places
  pub record AreFoundAtPlaces {E : Type 0} (found_at : S → List E)
      (n : ℕ) (s : S) (found : List E) : Type 0 where
    pub all_places : List (List Step)
    pub are_all : ArePlaces n s all_places
    pub joined : found ≡ flat_map (λ p. if_some found_at (leads p s)) all_places

  -- the same lists, computed; `candidates` gives, in order, at least the allowed steps
  module _ (candidates : S → List Step) where
    unfoldable pub places : ℕ → S → List (List Step)
    places zero s = [] ∷ []
    places (suc n) s =
        [] ∷ flat_map (λ p. if_some (λ t. map (λ ps. p ∷ ps) (places n t)) (goes p s)) (candidates s)

    module _ {E : Type 0} (found_at : S → List E) where
      unfoldable pub answers : ℕ → S → List E
      answers n s = flat_map (λ p. if_some found_at (leads p s)) (places n s)
