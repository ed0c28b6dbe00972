use Rattle.std.proofs.Common.{ap, ◌∙◌}
use Rattle.kube_schema.specs.Tree.{own}
use Rattle.kube_schema.proofs.node.CompiledSchema.format.Goals as goal

pub returns : goal.returns
returns c = c.format.ensures ∙ ap (λ n. (own n).format) c.root.ensures
