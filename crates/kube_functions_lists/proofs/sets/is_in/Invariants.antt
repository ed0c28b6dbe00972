use Rattle.std.proofs.Common.{◌≡◌, map, drop}
use Rattle.cel_value.specs.View.{view}
use Rattle.kube_functions_lists.specs.Sets.{is_in}
use Rattle.kube_functions_lists.proofs.sets.is_in.Given as goal

abbrev pub invariant-loop-item : goal.invariant-loop-item
invariant-loop-item l = is_in (map view l.items) (view l.value) ≡ is_in (map view (drop l.item-index l.items)) (view l.value)
