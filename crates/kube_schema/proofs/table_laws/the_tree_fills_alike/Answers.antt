use Rattle.kube_schema.proofs.SameDefaults.{filled_same}
use Rattle.kube_schema.proofs.table_laws.the_tree_fills_alike.Goals as goal

pub returns : goal.returns
returns c = filled_same
