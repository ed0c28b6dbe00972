-- Texts that are joined.
use Rattle.std.proofs.Common.{◌≡◌, ℕ, List, [], ◌∷◌, ◌++◌, map, refl, sym, ap}
use Rattle.std.proofs.lemmas.List.Folds.{flat_map-map}
use Rattle.std.specs.List.{join_by}

-- the texts of elements are joined as these texts are
pub join_map : {A : Type 0} (text : A → List ℕ) (separator : List ℕ) (xs : List A) → join_by text separator xs ≡ join_by (λ t. t) separator (map text xs)
join_map text separator [] = refl
join_map text separator (x ∷ xs) = ap (λ ts. text x ++ ts) (sym (flat_map-map (λ t. separator ++ t) text xs))
