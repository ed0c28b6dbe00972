-- Scaffolding: only proofs and private clauses cite it.
-- Where a name is among members, or else where it belongs, in the order of names.
use Rattle.std.specs.Prelude.{◌≡◌, ℕ, zero, suc, List, [], ◌∷◌}
use Rattle.std.specs.declared.cmp.Ordering.{Ordering}
use Rattle.std.specs.declared.cmp.Ordering.TheVariants.{Less, Equal, Greater}
use Rattle.std.specs.Cmp.Lexicographic.{slice_cmp}
use Rattle.std.specs.Ordering.{nat_cmp}
use Rattle.cel_demand.specs.declared.demand.Demand.{Demand}

abbrev pub Entry : Type 0
Entry = List ℕ × Demand

abbrev pub name_of : Entry → List ℕ
name_of e = e.0

-- whether the name comes before a member's, is the same, or comes after it
abbrev pub order_to : List ℕ → Entry → Ordering
order_to x e = slice_cmp nat_cmp x (name_of e)

-- the name comes after the first members, as many as given
abbrev pub IsAfter : List ℕ → List Entry → ℕ → Type 0
IsAfter x es zero = Unit {0}
IsAfter x [] (suc i) = ⊥
IsAfter x (e ∷ es) (suc i) = (order_to x e ≡ Greater) × IsAfter x es i

-- the member at this index has the name, and the name comes after those before it
abbrev pub IsAt : List ℕ → List Entry → ℕ → Type 0
IsAt x [] i = ⊥
IsAt x (e ∷ es) zero = order_to x e ≡ Equal
IsAt x (e ∷ es) (suc i) = (order_to x e ≡ Greater) × IsAt x es i

-- the name comes after the members before this index, and before the one at it, if any
abbrev pub BelongsAt : List ℕ → List Entry → ℕ → Type 0
BelongsAt x [] zero = Unit {0}
BelongsAt x [] (suc i) = ⊥
BelongsAt x (e ∷ es) zero = order_to x e ≡ Less
BelongsAt x (e ∷ es) (suc i) = (order_to x e ≡ Greater) × BelongsAt x es i
