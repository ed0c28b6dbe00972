use Rattle.kube_cel_analysis.specs.Cost.{product}
use Rattle.kube_cel_analysis.proofs.cost.product.Goals as goal

pub returns : goal.returns
unfolding product
returns c = c.saturating_mul.ensures
