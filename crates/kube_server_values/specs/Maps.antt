-- Trusted by the clauses of other library calls.
-- Maps that macros build (documentation of CEL-Go, `ext.TwoVarComprehensions`, `transformMap` and
-- `transformMapEntry`; `cel.OptionalTypes`, "Optional Field Setting"): the entries are added one by
-- one, as to a map literal, so that a repeated key is an error.
use Rattle.std.specs.Prelude.{ℕ, List, codes, Option, Some, None, Ok, Err}
use Rattle.std.specs.Option.{option_map_or}
use Rattle.cel_value.specs.Data.{Data, list, map_of, Items, no_items, item, Entries, no_entries, entry}
use Rattle.cel_value.specs.Faults.{no_overload}
use Rattle.cel_semantics.specs.Members.{put_in}
use Rattle.cel_semantics.specs.Outcome.{Outcome, and_then}
use Rattle.cel_semantics.specs.Ranges.{key_data}

-- adds to a map what each item adds, from the left
abbrev pub added_by : (Data → Data → Outcome) → Data → Items → Outcome
added_by f m no_items = Ok m
added_by f m (item d ds) = and_then (f m d) (λ n. added_by f n ds)

-- ---- pairs

-- the two items of a list of two
abbrev pub two_of : Items → Option (Data × Data)
two_of (item k (item v no_items)) = Some (k, v)
two_of _ = None

abbrev pub pair_in : Data → Option (Data × Data)
pair_in (list ds) = two_of ds
pair_in _ = None

abbrev pub put_pair : Data → Data → Outcome
put_pair m d = option_map_or (λ p. put_in m p.0 p.1) (pair_in d) (Err (no_overload (codes "@map_of_pairs")))

-- the map of a list of pairs of a key and a value
abbrev pub map_of_pairs : Data → Outcome
map_of_pairs (list ds) = added_by put_pair (map_of no_entries) ds
map_of_pairs _ = Err (no_overload (codes "@map_of_pairs"))

-- ---- maps

abbrev pub put_entries : Data → Entries → Outcome
put_entries m no_entries = Ok m
put_entries m (entry k d es) = and_then (put_in m (key_data k) d) (λ n. put_entries n es)

abbrev pub put_map : Data → Data → Outcome
put_map m (map_of es) = put_entries m es
put_map m _ = Err (no_overload (codes "@map_of_maps"))

-- the map of all entries of the maps of a list
abbrev pub map_of_maps : Data → Outcome
map_of_maps (list ds) = added_by put_map (map_of no_entries) ds
map_of_maps _ = Err (no_overload (codes "@map_of_maps"))
