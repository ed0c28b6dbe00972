use Rattle.std.proofs.Common.{◌≡◌, map, drop}
use Rattle.cel_value.specs.View.{view}
use Rattle.kube_functions_lists.specs.Sums.{sum_from}
use Rattle.kube_functions_lists.proofs.sums.sum_from.Given as goal

abbrev pub invariant-loop-value : goal.invariant-loop-value
invariant-loop-value l = sum_from (view l.first) (map view l.rest) ≡ sum_from (view l.sum) (map view (drop l.value-index l.rest))
