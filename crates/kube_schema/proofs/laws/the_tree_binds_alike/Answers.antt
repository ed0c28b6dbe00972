use Rattle.kube_schema.proofs.SameBinding.{bound_same}
use Rattle.kube_schema.proofs.laws.the_tree_binds_alike.Goals as goal

pub returns : goal.returns
returns c = bound_same
