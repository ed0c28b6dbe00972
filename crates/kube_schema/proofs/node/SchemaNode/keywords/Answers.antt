use Rattle.std.proofs.Common.{sym, ap, ◌∙◌}
use Rattle.kube_schema.specs.Raw.{tree}
use Rattle.kube_schema.specs.Tree.{own}
use Rattle.kube_schema.proofs.Trees.{own_at}
use Rattle.kube_schema.proofs.node.SchemaNode.keywords.Goals as goal

pub returns : goal.returns
returns g c = sym (ap own c.raw.ensures.is ∙ own_at g.K.NodeKeywords.own (tree g.K.NodeKeywords.own c.args.self.now.schema.now.table.nodes.items) c.raw.result.now)
