use Rattle.kube_types.specs.Version.OrderLaws.{tested_same, same_tested}
use Rattle.kube_types.proofs.versions.laws.equality_is_that_of_parts.Goals as goal

pub returns : goal.returns
returns c = λ p q. (tested_same p q, same_tested p q)
