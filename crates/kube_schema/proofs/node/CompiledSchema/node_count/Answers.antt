use Rattle.std.proofs.Common.{◌∙◌}
use Rattle.kube_schema.specs.Shown.{whole}
use Rattle.kube_schema.proofs.node.CompiledSchema.node_count.Goals as goal

pub returns : goal.returns
unfolding whole
returns g c = c.len.ensures ∙ c.args.self.now.table.nodes.ok.0 ∙ c.args.self.now.counted
