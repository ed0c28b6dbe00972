use Rattle.std.proofs.Common.{◌≡◌, map}
use Rattle.cel_value.specs.View.{view}
use Rattle.kube_functions_lists.specs.Lists.{first_ints}
use Rattle.kube_functions_lists.proofs.ranges.first_ints.Given as goal

abbrev pub invariant-loop-number : goal.invariant-loop-number
invariant-loop-number l = map view l.ints.items ≡ first_ints l.number
