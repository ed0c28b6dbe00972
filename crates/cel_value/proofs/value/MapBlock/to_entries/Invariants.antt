use Rattle.std.proofs.Common.{◌≡◌, List, ◌++◌}
use Rattle.std.specs.List.Sorted.{IsStrictlySortedBy}
use Rattle.std.specs.Map.{keys_of}
use Rattle.cel_value.specs.Blocks.{map_in}
use Rattle.cel_value.specs.Keys.{key_cmp}
use Rattle.cel_value.specs.Listed.{Entry}
use Rattle.cel_value.specs.View.{entries_view}
use Rattle.cel_value.proofs.value.MapBlock.to_entries.Given as goal

abbrev pub invariant-loop-key : goal.invariant-loop-key
invariant-loop-key l =
    (done : List Entry) × (entries_view (done ++ l.key-iterator) ≡ map_in l.self l.row)
    × IsStrictlySortedBy key_cmp (keys_of (done ++ l.key-iterator)) × (entries_view l.entries.entries ≡ entries_view done)
