-- Trusted by the clauses of other library calls.
-- Optional values (documentation of CEL-Go, `cel.OptionalTypes`, "Optional.Of",
-- "Optional.OfNonZeroValue", "Optional.None", "Or", "OrValue"). `or` and `orValue` get their argument
-- as a value; that it isn't evaluated where it isn't needed is up to their caller.
use Rattle.std.specs.Prelude.{ℕ, ◌==◌, ◌||◌, List, [], length, codes, Bool, true, false, not, is_some, Ok, Err, ℤ, pos, neg_ℤ, if◌then◌else◌}
use Rattle.std.specs.Ordering.{int_eq}
use Rattle.cel_value.specs.Data.{Data, null, bool, int, uint, text, bytes, list, map_of, timestamp, duration, optional, Items, no_items, item}
use Rattle.cel_value.specs.Faults.{no_overload}
use Rattle.cel_value.specs.Find.{first_item, list_of_items, list_of_entries}
use Rattle.cel_value.specs.View.{alone}
use Rattle.cel_semantics.specs.Outcome.{Outcome}
use Rattle.kube_server_values.specs.Limits.{zero_limit}

abbrev pub some_of : Data → Data
some_of v = optional (alone v)

abbrev pub none_of_all : Data
none_of_all = optional no_items

-- ---- zero values: the default empty value of a type

abbrev pub is_zero : Data → Bool
is_zero null = true
is_zero (bool b) = not b
is_zero (int n) = int_eq n (pos 0)
is_zero (uint n) = n == 0
is_zero (text s) = length s == 0
is_zero (bytes s) = length s == 0
is_zero (list ds) = length (list_of_items ds) == 0
is_zero (map_of es) = length (list_of_entries es) == 0
is_zero (duration n) = int_eq n (pos 0)
is_zero _ = false

-- Whether the documents don't say if it is a zero value: an optional without a value, and two
-- timestamps, 1970-01-01T00:00:00Z (of Protocol Buffers) and 0001-01-01T00:00:00Z (of Go).
abbrev pub is_first : ℤ → Bool
is_first instant = int_eq instant (pos 0) || int_eq instant (neg_ℤ (pos 62_135_596_800_000_000_000))

abbrev pub may_be_zero : Data → Bool
may_be_zero (timestamp t o) = is_first t
may_be_zero (optional ds) = not (is_some (first_item ds))
may_be_zero _ = false

abbrev pub some_of_nonzero : Data → Outcome
some_of_nonzero v =
    if may_be_zero v then Err zero_limit
    else (if is_zero v then Ok none_of_all else Ok (some_of v))

-- ---- alternatives

-- the first optional if it holds a value, else the second
abbrev pub held_or : Items → Data → Outcome
held_or no_items (optional es) = Ok (optional es)
held_or (item d ds) (optional es) = Ok (optional (item d ds))
held_or ds _ = Err (no_overload (codes "or"))

abbrev pub or_optional : Data → Data → Outcome
or_optional (optional ds) w = held_or ds w
or_optional _ w = Err (no_overload (codes "or"))

-- the value that the optional holds, else the other value
abbrev pub held_or_value : Items → Data → Outcome
held_or_value no_items w = Ok w
held_or_value (item d ds) w = Ok d

abbrev pub or_value : Data → Data → Outcome
or_value (optional ds) w = held_or_value ds w
or_value _ w = Err (no_overload (codes "orValue"))
