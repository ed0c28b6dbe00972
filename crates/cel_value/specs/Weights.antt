-- Scaffolding: only proofs and private clauses cite it.
-- The number of parts of a value. It decreases in recursion over a value.
use Rattle.std.specs.Prelude.{ℕ, suc, ◌+◌, ◌-◌}
use Rattle.cel_value.specs.Data.{Data, list, map_of, optional, Items, no_items, item, Entries, no_entries, entry}
use Rattle.cel_value.specs.Listed.{Listed}
use Rattle.cel_value.specs.Shared.{Shared, shared_entries}
use Rattle.cel_value.specs.View.{entries_view}

abbrev mutual
  pub weight : Data → ℕ
  weight (list ds) = suc (items_weight ds)
  weight (map_of es) = suc (suc (suc (suc (entries_weight es))))
  weight (optional ds) = suc (suc (items_weight ds))
  weight _ = 1

  pub items_weight : Items → ℕ
  items_weight no_items = 1
  items_weight (item d ds) = weight d + items_weight ds

  pub entries_weight : Entries → ℕ
  entries_weight no_entries = 1
  entries_weight (entry k d es) = weight d + entries_weight es

-- the weight of an optional without its kind
abbrev pub held_weight : Items → ℕ
held_weight ds = suc (items_weight ds)

-- the weight of a map that has its memory for itself
abbrev pub single_weight : Entries → ℕ
single_weight es = suc (entries_weight es)

-- the weight of rows, whose values have no parts
unfoldable pub rows_weight : Shared → ℕ
rows_weight s = 2

-- the weight of a map without its kind
abbrev pub map_weight : Entries → ℕ
map_weight es = suc (suc (suc (entries_weight es)))

-- the weight of the entries that are stored for a map
abbrev pub listed_weight : Listed → ℕ
listed_weight l = entries_weight (entries_view l.entries) - 1

abbrev pub shared_weight : Shared → ℕ
shared_weight s = entries_weight (entries_view (shared_entries s)) - 1
