use Rattle.std.proofs.Common.{take}
use Rattle.kube_functions_lists.specs.Hashed.{Knows, among}
use Rattle.kube_functions_lists.proofs.keyed.Known.of.Given as goal

abbrev pub invariant-loop-item : goal.invariant-loop-item
invariant-loop-item l = Knows l.known (among (take l.item-index l.items))
