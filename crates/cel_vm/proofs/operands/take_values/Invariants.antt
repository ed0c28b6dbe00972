use Rattle.std.proofs.Common.{◌≡◌, ◌-◌, ◌≤◌, [], length, map, reverse, vec_len}
use Rattle.cel_value.specs.View.{view}
use Rattle.cel_vm.specs.Machine.{taken}
use Rattle.cel_vm.specs.State.{outcomes}
use Rattle.cel_vm.proofs.operands.take_values.Given as goal

abbrev pub invariant-loop-values : goal.invariant-loop-values
invariant-loop-values l =
    (length l.found.items ≤ l.count)
    × (taken l.count (outcomes l.initial.values.items) [] ≡ taken (l.count - length l.found.items) (outcomes l.values.items) (reverse (map view l.found.items)))

abbrev pub decreases-loop-values : goal.decreases-loop-values
decreases-loop-values l = l.count - vec_len l.found
