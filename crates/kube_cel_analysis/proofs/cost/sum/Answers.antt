use Rattle.kube_cel_analysis.specs.Cost.{sum}
use Rattle.kube_cel_analysis.proofs.cost.sum.Goals as goal

pub returns : goal.returns
unfolding sum
returns c = c.saturating_add.ensures
