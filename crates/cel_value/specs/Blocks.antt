-- Trusted by the clauses of other library calls.
-- The entries of a map, in what it shares with other maps.
use Rattle.std.specs.Prelude.{◌≤◌, ◌*◌, ℕ, suc, length, ⊤}
use Rattle.cel_value.specs.Data.{Entries}
use Rattle.cel_value.specs.Rows.{row_entries}
use Rattle.cel_value.specs.View.{entries_view}
use Rattle.cel_value.specs.declared.value.MapBlock.{MapBlock}
use Rattle.cel_value.specs.declared.value.MapBlock.TheVariants as block

abbrev pub map_in : MapBlock → ℕ → Entries
map_in (block.Single m) i = m
map_in (block.Rows r) i = entries_view (row_entries r i)

-- the row has all its values
abbrev pub HasRow : MapBlock → ℕ → Type 0
HasRow (block.Single m) i = ⊤
HasRow (block.Rows r) i = suc i * length r.keys ≤ length r.values
