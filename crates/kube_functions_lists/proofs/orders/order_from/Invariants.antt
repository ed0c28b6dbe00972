use Rattle.std.proofs.Common.{◌≡◌, ◌∷◌, map, drop}
use Rattle.cel_value.specs.View.{view}
use Rattle.kube_functions_lists.specs.Orders.{order_of}
use Rattle.kube_functions_lists.proofs.orders.order_from.Given as goal

abbrev pub invariant-loop-value : goal.invariant-loop-value
invariant-loop-value l = order_of (view l.first ∷ map view l.rest) ≡ order_of (view l.last ∷ map view (drop l.value-index l.rest))
