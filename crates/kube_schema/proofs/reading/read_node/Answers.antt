use Rattle.std.proofs.Common.{ap}
use Rattle.kube_schema.specs.declared.nodes.Children.{Children}
use Rattle.kube_schema.specs.Tree.{Own}
use Rattle.kube_schema.proofs.reading.read_node.Goals as goal

pub returns-clause-same : goal.returns-clause-same
returns-clause-same g c = ap {B = Children × Own} (λ o. (c.args.node.children, o)) c.in_ok-keywords.ensures.same
