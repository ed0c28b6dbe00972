use Rattle.kubecel_report.proofs.Summed.{left}
use Rattle.kubecel_report.proofs.summary.finding_count.Given as goal
use Rattle.std.proofs.Common.{◌≡◌, ◌-◌, ◌^◌, ◌≤◌}

abbrev pub invariant-loop-item : goal.invariant-loop-item
invariant-loop-item l = (l.count ≤ 2 ^ 64 - 1) × (left l.items 0 0 ≡ left l.items l.item-index l.count)
