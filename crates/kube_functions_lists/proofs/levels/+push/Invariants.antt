use Rattle.std.proofs.Common.{◌≡◌, ◌++◌, ◌+◌, ◌*◌, map, drop}
use Rattle.cel_value.specs.View.{view, items_view}
use Rattle.kube_functions_lists.specs.Lists.{flat_items}
use Rattle.kube_functions_lists.proofs.levels.+push.Given as goal

abbrev pub decreases-push_item : goal.decreases-push_item
decreases-push_item l = 2 * l.depth

abbrev pub decreases-push_items : goal.decreases-push_items
decreases-push_items l = 2 * l.depth + 1

abbrev pub invariant-push_items-loop-item : goal.invariant-push_items-loop-item
invariant-push_items-loop-item l = map view l.out.items ++ flat_items (items_view (drop l.item-index l.item-items)) l.depth
    ≡ map view l.initial.out.items ++ flat_items l.items l.depth
