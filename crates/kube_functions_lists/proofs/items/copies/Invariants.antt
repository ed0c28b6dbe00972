use Rattle.std.proofs.Common.{◌≡◌, map, take}
use Rattle.cel_value.specs.View.{view}
use Rattle.kube_functions_lists.proofs.items.copies.Given as goal

abbrev pub invariant-loop-item : goal.invariant-loop-item
invariant-loop-item l = map view l.copied.items ≡ map view (take l.item-index l.items)
