use Rattle.std.proofs.Common.{◌≡◌, map, drop}
use Rattle.cel_value.specs.View.{view}
use Rattle.kube_functions_lists.specs.Sets.{have_common}
use Rattle.kube_functions_lists.proofs.sets.have_common.Given as goal

abbrev pub invariant-loop-other : goal.invariant-loop-other
invariant-loop-other l = have_common (map view l.items) (map view l.others) ≡ have_common (map view l.items) (map view (drop l.other-index l.others))
