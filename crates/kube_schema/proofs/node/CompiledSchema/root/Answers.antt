use Rattle.std.proofs.Common.{refl}
use Rattle.kube_schema.specs.Shown.{node_tree, whole}
use Rattle.kube_schema.proofs.node.CompiledSchema.root.Goals as goal

pub returns : goal.returns
unfolding node_tree whole
returns g c = refl
