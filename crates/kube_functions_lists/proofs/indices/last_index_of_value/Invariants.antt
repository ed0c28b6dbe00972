use Rattle.std.proofs.Common.{◌≡◌, map, drop}
use Rattle.std.specs.Option.{option_or}
use Rattle.cel_value.specs.Same.{same}
use Rattle.cel_value.specs.View.{view}
use Rattle.kube_functions_lists.specs.Indices.{last_position_from}
use Rattle.kube_functions_lists.proofs.indices.last_index_of_value.Given as goal

abbrev pub invariant-loop-item : goal.invariant-loop-item
invariant-loop-item l = (l.index ≡ l.item-index)
    × (last_position_from (λ d. same d (view l.value)) 0 (map view l.items) ≡ option_or (last_position_from (λ d. same d (view l.value)) l.index (map view (drop l.item-index l.items))) l.last)
