use Rattle.std.proofs.Common.{◌≡◌, map}
use Rattle.kube_schema.specs.Raw.{shape}
use Rattle.kube_schema.specs.Source.{source_own}
use Rattle.kube_schema.proofs.reading.read_nodes.Given as goal

abbrev pub invariant-loop-node : goal.invariant-loop-node
invariant-loop-node g l = map (shape g.K.NodeKeywords.own) l.nodes.items ≡ map (shape source_own) l.yielded
