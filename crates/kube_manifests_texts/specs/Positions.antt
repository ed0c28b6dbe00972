-- Trusted by the clauses of other library calls.
-- Positions: what an index has for two texts, and the first element of a list that passes a test.
use Rattle.kube_manifests_texts.specs.declared.index.Index.{Index}
use Rattle.std.specs.BTreeMap.{get_by_text}
use Rattle.std.specs.Prelude.{ℕ, suc, List, [], ◌∷◌, Bool, Option, Some, None, option_and_then, option_map, if◌then◌else◌}

abbrev pub position_at : Index → List ℕ → List ℕ → Option ℕ
position_at x first second = option_and_then (λ row. get_by_text row second) (get_by_text x.rows first)

-- the position of the first element that passes
abbrev pub first_at : {A : Type 0} → (A → Bool) → List A → Option ℕ
first_at p [] = None
first_at p (x ∷ xs) = if p x then Some 0 else option_map suc (first_at p xs)
