use Rattle.kubecel_report.proofs.summary.verdict_count.Given as goal
use Rattle.kubecel_report.specs.Items.{item_view}
use Rattle.kubecel_report.specs.Summary.{verdict_count}
use Rattle.std.proofs.Common.{◌≡◌, ◌≤◌, map, take}

abbrev pub invariant-loop-item : goal.invariant-loop-item
invariant-loop-item l = (l.count ≡ verdict_count l.verdict (map item_view (take l.item-index l.items))) × (l.count ≤ l.item-index)
