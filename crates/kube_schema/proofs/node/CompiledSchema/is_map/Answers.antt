use Rattle.std.proofs.Common.{ap, ◌∙◌}
use Rattle.kube_schema.specs.Tree.{own}
use Rattle.kube_schema.proofs.node.CompiledSchema.is_map.Goals as goal

pub returns : goal.returns
returns c = c.is_map.ensures ∙ ap (λ n. (own n).is_map) c.root.ensures
