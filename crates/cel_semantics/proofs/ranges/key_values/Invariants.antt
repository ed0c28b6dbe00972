use Rattle.std.proofs.Common.{◌≡◌, ◌++◌, map}
use Rattle.cel_value.specs.View.{view, entries_view}
use Rattle.cel_semantics.specs.Ranges.{keys_list}
use Rattle.cel_semantics.proofs.ranges.key_values.Given as goal

abbrev pub invariant-loop-key : goal.invariant-loop-key
invariant-loop-key l =
    map view l.values.items ++ keys_list (entries_view l.key-iterator) ≡ keys_list l.entries
