use Rattle.std.proofs.Common.{ap, ◌∙◌}
use Rattle.kube_schema.specs.Tree.{own}
use Rattle.kube_schema.proofs.node.CompiledSchema.max_properties.Goals as goal

pub returns : goal.returns
returns c = c.max_properties.ensures ∙ ap (λ n. (own n).max_properties) c.root.ensures
