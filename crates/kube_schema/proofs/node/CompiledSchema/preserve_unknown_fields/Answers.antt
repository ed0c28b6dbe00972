use Rattle.std.proofs.Common.{ap, ◌∙◌}
use Rattle.kube_schema.specs.Tree.{own}
use Rattle.kube_schema.proofs.node.CompiledSchema.preserve_unknown_fields.Goals as goal

pub returns : goal.returns
returns c = c.preserve_unknown_fields.ensures ∙ ap (λ n. (own n).preserves) c.root.ensures
