-- Trusted by the clauses of other library calls.
-- Maps of the same keys, whose values lie side by side, as those of the rows of a table.
use Rattle.std.specs.Prelude.{◌≡◌, ◌*◌, ◌++◌, ◌∷◌, [], ℕ, zero, suc, Bool, true, false, List, length, take, drop, zip}
use Rattle.std.specs.List.{AllByRecursion}
use Rattle.cel_value.specs.Data.{Data, double, list, map_of, optional}
use Rattle.cel_value.specs.Listed.{Entry}
use Rattle.cel_value.specs.Shared.{Shared}
use Rattle.cel_value.specs.View.{view, entries_view}
use Rattle.cel_value.specs.declared.key.Key.{Key}
use Rattle.cel_value.specs.declared.value.Value.{Value}

-- whether a value is neither a double nor made of other values
abbrev pub is_flat : Data → Bool
is_flat double = false
is_flat (list ds) = false
is_flat (map_of es) = false
is_flat (optional ds) = false
is_flat _ = true

abbrev pub AreFlat : List Value → Type 0
AreFlat vs = AllByRecursion (λ v. is_flat (view v) ≡ true) vs

-- of rows of so many values, the values of the one at an index
abbrev pub row_values : ℕ → ℕ → List Value → List Value
row_values width i vs = take width (drop (i * width) vs)

-- the entries of a row
abbrev pub row_entries : Shared → ℕ → List Entry
row_entries s i = zip s.keys (row_values (length s.keys) i s.values)

-- the maps of the first rows
abbrev pub row_maps : List Key → List Value → ℕ → List Data
row_maps ks vs zero = []
row_maps ks vs (suc n) = row_maps ks vs n ++ map_of (entries_view (zip ks (row_values (length ks) n vs))) ∷ []
