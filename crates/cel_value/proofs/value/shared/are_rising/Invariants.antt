use Rattle.std.proofs.Common.{◌-◌, ◌≤◌, length, drop}
use Rattle.std.specs.List.Sorted.{IsStrictlySortedBy}
use Rattle.cel_value.specs.Keys.{key_cmp}
use Rattle.cel_value.proofs.value.shared.are_rising.Given as goal

abbrev pub invariant-loop-at : goal.invariant-loop-at
invariant-loop-at l = (l.at ≤ length l.keys) × IsStrictlySortedBy key_cmp (drop (l.at - 1) l.keys)

abbrev pub decreases-loop-at : goal.decreases-loop-at
decreases-loop-at l = l.at
