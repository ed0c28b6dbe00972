-- Trusted by the headline.
-- The range of a macro: a list's items, or a map's keys in
-- key order (CEL language definition, "Macros").
use Rattle.std.specs.Prelude.{ℕ, List, [], ◌∷◌, map, Result, Ok, Err}
use Rattle.cel_value.specs.Data.{KeyData, bool_key, int_key, uint_key, text_key, Data, bool, int, uint, text, list, map_of, Items, no_items, item, Entries, no_entries, entry}
use Rattle.cel_value.specs.Faults.{Fault, no_overload, fault_view}
use Rattle.cel_value.specs.View.{view}
use Rattle.cel_value.specs.declared.error.ExecutionError.{ExecutionError}
use Rattle.cel_semantics.specs.declared.ranges.Range.{Range}
use Rattle.cel_semantics.specs.declared.ranges.Range.TheVariants as range

abbrev pub items_list : Items → List Data
items_list no_items = []
items_list (item d ds) = d ∷ items_list ds

abbrev pub key_data : KeyData → Data
key_data (bool_key b) = bool b
key_data (int_key n) = int n
key_data (uint_key n) = uint n
key_data (text_key s) = text s

abbrev pub keys_list : Entries → List Data
keys_list no_entries = []
keys_list (entry k d es) = key_data k ∷ keys_list es

-- the items, or an error of the named macro
abbrev pub range_of : List ℕ → Data → Result (List Data) Fault
range_of name (list ds) = Ok (items_list ds)
range_of name (map_of es) = Ok (keys_list es)
range_of name _ = Err (no_overload name)

-- the items of a range
abbrev pub range_list : Range → List Data
range_list (range.Items l) = items_list l.value
range_list (range.Keys v) = map view v.items

abbrev pub range_view : Result Range ExecutionError → Result (List Data) Fault
range_view (Ok r) = Ok (range_list r)
range_view (Err e) = Err (fault_view e)
