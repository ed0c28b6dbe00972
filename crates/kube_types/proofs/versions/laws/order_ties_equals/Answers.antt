use Rattle.kube_types.specs.Version.OrderLaws.{tied_same, same_tied}
use Rattle.kube_types.proofs.versions.laws.order_ties_equals.Goals as goal

pub returns : goal.returns
returns c = λ p q. (tied_same p q, same_tied p q)
