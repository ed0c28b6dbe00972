use Rattle.std.proofs.Common.{ap, ◌∙◌}
use Rattle.kube_schema.specs.Tree.{own}
use Rattle.kube_schema.proofs.node.CompiledSchema.max_length.Goals as goal

pub returns : goal.returns
returns c = c.max_length.ensures ∙ ap (λ n. (own n).max_length) c.root.ensures
