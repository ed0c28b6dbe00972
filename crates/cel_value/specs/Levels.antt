-- Trusted by the clauses of other library calls.
-- The number of levels of nested lists, maps and optionals in a value.
use Rattle.std.specs.Prelude.{ℕ, suc, max}
use Rattle.cel_value.specs.Data.{Data, list, map_of, optional, Items, no_items, item, Entries, no_entries, entry}

abbrev mutual
  pub levels : Data → ℕ
  levels (list ds) = suc (items_levels ds)
  levels (map_of es) = suc (entries_levels es)
  levels (optional ds) = suc (items_levels ds)
  levels _ = 0

  -- the most levels of any item
  pub items_levels : Items → ℕ
  items_levels no_items = 0
  items_levels (item d ds) = max (levels d) (items_levels ds)

  -- the most levels of any value
  pub entries_levels : Entries → ℕ
  entries_levels no_entries = 0
  entries_levels (entry k d es) = max (levels d) (entries_levels es)

-- no value has more levels
abbrev pub max_levels : ℕ
max_levels = 4096
