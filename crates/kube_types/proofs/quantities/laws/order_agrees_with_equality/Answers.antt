use Rattle.kube_types.specs.Quantity.OrderLaws.{tied_same, same_tied}
use Rattle.kube_types.proofs.quantities.laws.order_agrees_with_equality.Goals as goal

pub returns : goal.returns
returns c = λ x y. (tied_same x y, same_tied x y)
