use Rattle.kubecel_report.proofs.item.status_of.Given as goal
use Rattle.kubecel_report.specs.Items.{item_view, items_status}
use Rattle.std.proofs.Common.{◌≡◌, ◌≤◌, drop, map, max}

abbrev pub invariant-loop-item : goal.invariant-loop-item
invariant-loop-item l = record {
  status : items_status (map item_view l.items) ≡ max l.status (items_status (map item_view (drop l.item-index l.items)));
  within : l.status ≤ 2;
}
