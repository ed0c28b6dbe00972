use Rattle.std.proofs.Common.{◌≡◌, map, drop, is_some}
use Rattle.std.specs.List.{list_all}
use Rattle.cel_value.specs.Same.{comparison}
use Rattle.cel_value.specs.View.{view}
use Rattle.kube_functions_lists.proofs.orders.compares_with_all.Given as goal

abbrev pub invariant-loop-other : goal.invariant-loop-other
invariant-loop-other l = list_all (λ d. is_some (comparison (view l.value) d)) (map view l.others) ≡ list_all (λ d. is_some (comparison (view l.value) d)) (map view (drop l.other-index l.others))
