use Rattle.std.proofs.Common.{◌≡◌, List, ◌++◌}
use Rattle.std.specs.List.Sorted.{IsStrictlySortedBy}
use Rattle.std.specs.Map.{keys_of}
use Rattle.cel_value.specs.Keys.{key_cmp}
use Rattle.cel_value.specs.Listed.{Entry}
use Rattle.cel_value.specs.Shared.{shared_entries}
use Rattle.cel_value.specs.View.{entries_view}
use Rattle.cel_value.proofs.value.SharedEntries.to_entries.Given as goal

abbrev pub invariant-loop-key : goal.invariant-loop-key
invariant-loop-key l =
    (done : List Entry) × (done ++ l.key-iterator ≡ shared_entries l.self)
    × IsStrictlySortedBy key_cmp (keys_of (done ++ l.key-iterator)) × (entries_view l.entries.entries ≡ entries_view done)
