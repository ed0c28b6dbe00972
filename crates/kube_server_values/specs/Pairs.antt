-- Trusted by the clauses of other library calls.
-- What macros with two variables iterate over (documentation of CEL-Go,
-- `ext.TwoVarComprehensions`): the indices and items of a list, or the keys and values of a map, in
-- key order. Each pair is a list of two.
use Rattle.std.specs.Prelude.{ℕ, suc, pos, List, [], ◌∷◌, codes, Ok, Err}
use Rattle.cel_value.specs.Data.{Data, int, list, map_of, Items, no_items, item, Entries, no_entries, entry}
use Rattle.cel_value.specs.Faults.{no_overload}
use Rattle.cel_value.specs.View.{items_of}
use Rattle.cel_semantics.specs.Outcome.{Outcome}
use Rattle.cel_semantics.specs.Ranges.{key_data}

abbrev pub pair : Data → Data → Data
pair v w = list (item v (item w no_items))

-- the pairs of items with their indices, the first of which is given
abbrev pub indexed : ℕ → Items → List Data
indexed n no_items = []
indexed n (item d ds) = pair (int (pos n)) d ∷ indexed (suc n) ds

abbrev pub keyed : Entries → List Data
keyed no_entries = []
keyed (entry k d es) = pair (key_data k) d ∷ keyed es

abbrev pub pairs_of : Data → Outcome
pairs_of (list ds) = Ok (list (items_of (indexed 0 ds)))
pairs_of (map_of es) = Ok (list (items_of (keyed es)))
pairs_of _ = Err (no_overload (codes "@pairs"))
