use Rattle.std.proofs.Common.{ap, ◌∙◌}
use Rattle.kube_schema.specs.Tree.{own}
use Rattle.kube_schema.proofs.node.CompiledSchema.max_items.Goals as goal

pub returns : goal.returns
returns c = c.max_items.ensures ∙ ap (λ n. (own n).max_items) c.root.ensures
