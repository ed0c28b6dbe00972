use Rattle.std.proofs.Common.{refl}
use Rattle.kube_schema.specs.Shown.{node_tree}
use Rattle.kube_schema.proofs.node.SchemaNode.at.Goals as goal

pub returns : goal.returns
unfolding node_tree
returns g c = refl
