use Rattle.std.proofs.Common.{◌≡◌, map, drop}
use Rattle.cel_value.specs.View.{view}
use Rattle.kube_functions_lists.specs.Sets.{has_all}
use Rattle.kube_functions_lists.proofs.sets.has_all.Given as goal

abbrev pub invariant-loop-other : goal.invariant-loop-other
invariant-loop-other l = has_all (map view l.items) (map view l.others) ≡ has_all (map view l.items) (map view (drop l.other-index l.others))
