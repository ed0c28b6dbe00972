-- Trusted by the headline.
-- The size of a value (CEL language definition, "List of Standard Definitions", `size`): the
-- number of a string's code points, of bytes, of a list's items or of a map's entries. A size is
-- an int; one out of range would be an overflow.
use Rattle.std.specs.Prelude.{ℕ, suc, pos, length, codes, Err}
use Rattle.std.specs.Str.{chars}
use Rattle.cel_value.specs.Data.{Data, text, bytes, list, map_of, Items, no_items, item, Entries, no_entries, entry}
use Rattle.cel_value.specs.Faults.{no_overload}
use Rattle.cel_semantics.specs.Arithmetic.{int_or_overflow}
use Rattle.cel_semantics.specs.Outcome.{Outcome}

abbrev pub item_count : Items → ℕ
item_count no_items = 0
item_count (item d ds) = suc (item_count ds)

abbrev pub entry_count : Entries → ℕ
entry_count no_entries = 0
entry_count (entry k d es) = suc (entry_count es)

abbrev pub size_outcome : Data → Outcome
size_outcome (text s) = int_or_overflow (pos (length (chars s)))
size_outcome (bytes s) = int_or_overflow (pos (length s))
size_outcome (list ds) = int_or_overflow (pos (item_count ds))
size_outcome (map_of es) = int_or_overflow (pos (entry_count es))
size_outcome _ = Err (no_overload (codes "size"))
