use Rattle.std.proofs.Common.{ap, ◌∙◌}
use Rattle.kube_schema.specs.Tree.{own}
use Rattle.kube_schema.proofs.node.CompiledSchema.validations.Goals as goal

pub returns : goal.returns
returns c = c.validations.ensures ∙ ap (λ n. (own n).validations) c.root.ensures
