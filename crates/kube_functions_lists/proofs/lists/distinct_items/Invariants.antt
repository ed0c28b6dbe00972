use Rattle.std.proofs.Common.{◌≡◌, map, drop}
use Rattle.cel_value.specs.View.{view}
use Rattle.kube_functions_lists.specs.Hashed.{Knows, among}
use Rattle.kube_functions_lists.specs.Lists.{distinct_items}
use Rattle.kube_functions_lists.proofs.Distinct.{gathered}
use Rattle.kube_functions_lists.proofs.lists.distinct_items.Given as goal

abbrev pub invariant-loop-item : goal.invariant-loop-item
invariant-loop-item l =
    (distinct_items (map view l.items) ≡ gathered (map view l.kept.items) (map view (drop l.item-index l.items)))
    × Knows l.known (among l.kept.items)
