use Rattle.std.proofs.Common.{◌≡◌, map, drop}
use Rattle.std.specs.List.{position_from}
use Rattle.cel_value.specs.Same.{same}
use Rattle.cel_value.specs.View.{view}
use Rattle.kube_functions_lists.proofs.indices.first_index_of.Given as goal

abbrev pub invariant-loop-item : goal.invariant-loop-item
invariant-loop-item l = (l.index ≡ l.item-index)
    × (position_from (λ d. same d (view l.value)) 0 (map view l.items) ≡ position_from (λ d. same d (view l.value)) l.index (map view (drop l.item-index l.items)))
