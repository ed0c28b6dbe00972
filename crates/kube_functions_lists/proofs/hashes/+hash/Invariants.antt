use Rattle.std.proofs.Common.{◌≡◌, ◌≤◌, ◌+◌, ◌*◌, drop}
use Rattle.cel_value.specs.View.{view, items_view, entries_view}
use Rattle.cel_value.specs.Same.{shapes, entry_shapes}
use Rattle.cel_value.specs.Weights.{weight, items_weight, entries_weight}
use Rattle.kube_functions_lists.specs.Hashes.{with_shapes}
use Rattle.kube_functions_lists.proofs.hashes.+hash.Given as goal

abbrev pub decreases-hash : goal.decreases-hash
decreases-hash l = 2 * weight (view l.value.now)

abbrev pub decreases-with_held : goal.decreases-with_held
decreases-with_held l = 2 * items_weight l.held.now + 1

abbrev pub decreases-with_items : goal.decreases-with_items
decreases-with_items l = 2 * items_weight l.items.now + 1

abbrev pub decreases-with_entries : goal.decreases-with_entries
decreases-with_entries l = 2 * entries_weight l.entries.now + 1

abbrev pub invariant-with_items-loop-item : goal.invariant-with_items-loop-item
invariant-with_items-loop-item l =
    let left = items_view (drop l.item-index l.item-items) in
    (with_shapes l.start (shapes l.items) ≡ with_shapes l.mixture (shapes left)) × (items_weight left ≤ items_weight l.items)

abbrev pub invariant-with_entries-loop-key : goal.invariant-with_entries-loop-key
invariant-with_entries-loop-key l =
    let left = entries_view l.key-iterator in
    (with_shapes l.start (entry_shapes l.entries) ≡ with_shapes l.mixture (entry_shapes left)) × (entries_weight left ≤ entries_weight l.entries)
