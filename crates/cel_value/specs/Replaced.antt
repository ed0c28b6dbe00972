-- Trusted by the clauses of other library calls.
-- A map with another value at the key of one of its entries.
use Rattle.std.specs.Prelude.{◌≡◌, ℕ, List, Some, map, slice_get}
use Rattle.std.specs.List.Sorted.{IsStrictlySortedBy}
use Rattle.cel_value.specs.Data.{Data, Entries, KeyData}
use Rattle.cel_value.specs.Find.{list_of_entries}
use Rattle.cel_value.specs.Keys.{key_order, put}

-- the keys, in order
abbrev pub entry_keys : Entries → List KeyData
entry_keys es = map (λ e. e.0) (list_of_entries es)

-- the first entries, in key order, with another value at the key of index i are the second ones
abbrev pub IsReplacedAt : ℕ → Data → Entries → Entries → Type 0
IsReplacedAt i d es fs =
    IsStrictlySortedBy key_order (entry_keys es) × (entry_keys fs ≡ entry_keys es)
    × ((k : KeyData) → slice_get (entry_keys es) i ≡ Some k → fs ≡ put k d es)
