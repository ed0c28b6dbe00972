use Rattle.std.proofs.Common.{◌≡◌, ◌++◌, map, take}
use Rattle.cel_value.specs.View.{view}
use Rattle.cel_semantics.proofs.ranges.push_copies.Given as goal

abbrev pub invariant-loop-item : goal.invariant-loop-item
invariant-loop-item l = map view l.values.items ≡ map view l.initial.values.items ++ map view (take l.item-index l.items)
