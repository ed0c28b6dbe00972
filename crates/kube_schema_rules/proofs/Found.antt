-- `answers`, unfolded step by step.
use Rattle.std.proofs.Common.{◌≡◌, ℕ, suc, List, [], ◌∷◌, ◌++◌, map, Option, Some, None, option_and_then, refl, ap, ◌∙◌, append-nil}
use Rattle.std.proofs.lemmas.List.Concat.{flat_map-append}
use Rattle.std.specs.List.{flat_map}
use Rattle.kube_schema_rules.specs.Step.{Step}
use Rattle.kube_schema_rules.specs.Walk.{if_some, leads, places, answers}

pub flat_map-map : {X Y A : Type 0} (f : Y → List A) (g : X → Y) (xs : List X) → flat_map f (map g xs) ≡ flat_map (λ x. f (g x)) xs
flat_map-map f g [] = refl
flat_map-map f g (x ∷ xs) = ap (λ r. f (g x) ++ r) (flat_map-map f g xs)

pub flat_map-flat_map : {X Y A : Type 0} (f : Y → List A) (g : X → List Y) (xs : List X) → flat_map f (flat_map g xs) ≡ flat_map (λ x. flat_map f (g x)) xs
flat_map-flat_map f g [] = refl
flat_map-flat_map f g (x ∷ xs) = flat_map-append f (g x) (flat_map g xs) ∙ ap (λ r. flat_map f (g x) ++ r) (flat_map-flat_map f g xs)

pub flat_map_same : {X A : Type 0} (f g : X → List A) → ((x : X) → f x ≡ g x) → (xs : List X) → flat_map f xs ≡ flat_map g xs
flat_map_same f g e [] = refl
flat_map_same f g e (x ∷ xs) = (λ i. e x i ++ flat_map f xs) ∙ ap (λ r. g x ++ r) (flat_map_same f g e xs)

pub flat_map_none : {X A : Type 0} (f : X → List A) → ((x : X) → f x ≡ []) → (xs : List X) → flat_map f xs ≡ []
flat_map_none f e [] = refl
flat_map_none f e (x ∷ xs) = (λ i. e x i ++ flat_map f xs) ∙ flat_map_none f e xs

module _ {S E : Type 0} (goes : Step → S → Option S) (candidates : S → List Step) (verdicts : S → List E) where
  one_step : (n : ℕ) (s : S) (p : Step) (o : Option S) → goes p s ≡ o
      → flat_map (λ q. if_some verdicts (leads goes q s)) (if_some (λ t. map (λ ps. p ∷ ps) (places goes candidates n t)) o) ≡ if_some (answers goes candidates verdicts n) o
  unfolding leads answers
  one_step n s p None e = refl
  one_step n s p (Some t) e =
      flat_map-map (λ q. if_some verdicts (leads goes q s)) (λ ps. p ∷ ps) (places goes candidates n t)
      ∙ flat_map_same _ (λ q. if_some verdicts (leads goes q t)) (λ q. ap (λ o. if_some verdicts (option_and_then (leads goes q) o)) e) (places goes candidates n t)

  -- with no steps left
  pub answers_end : (s : S) → answers goes candidates verdicts 0 s ≡ verdicts s
  unfolding answers places leads
  answers_end s = append-nil (verdicts s)

  -- what is found at s, followed by what is found through each step
  pub answers_more : (n : ℕ) (s : S) → answers goes candidates verdicts (suc n) s ≡ verdicts s ++ flat_map (λ p. if_some (answers goes candidates verdicts n) (goes p s)) (candidates s)
  unfolding answers places leads
  answers_more n s =
      ap (λ r. verdicts s ++ r)
      (flat_map-flat_map (λ q. if_some verdicts (leads goes q s)) (λ p. if_some (λ t. map (λ ps. p ∷ ps) (places goes candidates n t)) (goes p s)) (candidates s)
      ∙ flat_map_same _ _ (λ p. one_step n s p (goes p s) refl) (candidates s))
