use Rattle.std.proofs.Common.{ap, ◌∙◌}
use Rattle.kube_schema.specs.Tree.{own}
use Rattle.kube_schema.proofs.node.CompiledSchema.embedded_resource.Goals as goal

pub returns : goal.returns
returns c = c.embedded_resource.ensures ∙ ap (λ n. (own n).embedded) c.root.ensures
