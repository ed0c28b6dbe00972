use Rattle.std.proofs.Common.{sym, ◌∙◌}
use Rattle.kube_schema.specs.Shown.{node_tree}
use Rattle.kube_schema.proofs.Without.{tree_without}
use Rattle.kube_schema.proofs.node.SchemaNode.may_have_defaults.Goals as goal

pub returns : goal.returns
unfolding node_tree
returns g c = λ no levels. tree_without g.K.NodeKeywords.own c.args.self.now.schema.now.table.nodes.items (sym c.args.self.now.schema.now.known ∙ no) levels c.args.self.now.number.0
