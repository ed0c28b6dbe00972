-- Trusted by the headline.
-- Members of maps and items of lists (CEL language definition, "Field
-- Selection", "Index", "Membership", "Map literals").
use Rattle.std.specs.Prelude.{ℕ, zero, suc, ℤ, pos, negsuc, codes, Bool, false, ◌||◌, Option, Some, None, is_some, Ok, Err}
use Rattle.std.specs.Option.{option_map_or}
use Rattle.cel_value.specs.Data.{KeyData, bool_key, int_key, uint_key, text_key, Data, bool, int, uint, double, text, list, map_of, Items, no_items, item, Entries}
use Rattle.cel_value.specs.Faults.{Fault, no_key, no_overload, out_of_bounds, unsupported_key, duplicate_key}
use Rattle.cel_value.specs.Find.{find}
use Rattle.cel_value.specs.Keys.{put}
use Rattle.cel_value.specs.Same.{same}
use Rattle.cel_semantics.specs.Outcome.{Outcome, no_doubles}

-- the member at a key
abbrev pub selection : KeyData → Data → Outcome
selection k (map_of es) = option_map_or Ok (find k es) (Err (no_key k))
selection k _ = Err (no_overload (codes "."))

-- whether there is a member at a key
abbrev pub has_member : KeyData → Data → Outcome
has_member k (map_of es) = Ok (bool (is_some (find k es)))
has_member k _ = Err (no_overload (codes "has"))

-- the value as a key, or None if its kind can't be one
abbrev pub key_of : Data → Option KeyData
key_of (bool b) = Some (bool_key b)
key_of (int n) = Some (int_key n)
key_of (uint n) = Some (uint_key n)
key_of (text s) = Some (text_key s)
key_of _ = None

-- the error for a value that can't be a key
abbrev pub not_key : Data → Fault
not_key double = no_doubles
not_key _ = unsupported_key

abbrev pub nth_item : ℕ → Items → Option Data
nth_item n no_items = None
nth_item zero (item d ds) = Some d
nth_item (suc n) (item d ds) = nth_item n ds

-- the item at an index, if it is in range
abbrev pub item_at : ℤ → Items → Option Data
item_at (pos n) ds = nth_item n ds
item_at (negsuc n) ds = None

abbrev pub list_indexed : Items → Data → Outcome
list_indexed ds (int n) = option_map_or Ok (item_at n ds) (Err out_of_bounds)
list_indexed ds (uint n) = option_map_or Ok (nth_item n ds) (Err out_of_bounds)
list_indexed ds double = Err no_doubles
list_indexed ds _ = Err (no_overload (codes "[]"))

-- the member at a key, or the error if the value was no key
abbrev pub member_at : Entries → Option KeyData → Outcome
member_at es (Some k) = option_map_or Ok (find k es) (Err (no_key k))
member_at es None = Err unsupported_key

abbrev pub map_indexed : Entries → Data → Outcome
map_indexed es double = Err no_doubles
map_indexed es v = member_at es (key_of v)

-- the error for a value that can't be indexed
abbrev pub not_indexed : Data → Outcome
not_indexed double = Err no_doubles
not_indexed _ = Err (no_overload (codes "[]"))

-- the item or the member at an index; a double is no index, whatever is indexed
abbrev pub index_outcome : Data → Data → Outcome
index_outcome (list ds) w = list_indexed ds w
index_outcome (map_of es) w = map_indexed es w
index_outcome _ w = not_indexed w

abbrev pub is_item : Data → Items → Bool
is_item v no_items = false
is_item v (item d ds) = same v d || is_item v ds

abbrev pub is_key : Entries → Option KeyData → Bool
is_key es None = false
is_key es (Some k) = is_some (find k es)

-- whether a value is an item of a list or a key of a map; a value that can't be a key is in no map
abbrev pub membership : Data → Data → Outcome
membership v (list ds) = Ok (bool (is_item v ds))
membership v (map_of es) = Ok (bool (is_key es (key_of v)))
membership v _ = Err (no_overload (codes "in"))

-- a map with one more entry, whose key must be new
abbrev pub new_entry : Entries → Data → Option Data → KeyData → Outcome
new_entry es v None k = Ok (map_of (put k v es))
new_entry es v (Some old) k = Err duplicate_key

abbrev pub entry_added : Entries → Option KeyData → Data → Outcome
entry_added es None v = Err unsupported_key
entry_added es (Some k) v = new_entry es v (find k es) k

-- a map literal with one more entry, from the map so far, the key
-- and the value; anything but a map is an error
abbrev pub put_in : Data → Data → Data → Outcome
put_in (map_of es) double v = Err no_doubles
put_in (map_of es) k v = entry_added es (key_of k) v
put_in _ k v = Err (no_overload (codes "{}"))
