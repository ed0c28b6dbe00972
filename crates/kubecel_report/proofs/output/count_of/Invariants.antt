use Rattle.kubecel_report.proofs.output.count_of.Given as goal
use Rattle.kubecel_report.specs.Items.{item_view}
use Rattle.kubecel_report.specs.Output.{count_of}
use Rattle.std.proofs.Common.{◌≡◌, ◌≤◌, map, take}

abbrev pub invariant-loop-item : goal.invariant-loop-item
invariant-loop-item l = (l.count ≡ count_of l.status (map item_view (take l.item-index l.items))) × (l.count ≤ l.item-index)
