use Rattle.std.proofs.Common.{ap, ◌∙◌, length}
use Rattle.kube_schema.specs.Tree.{named_of, names}
use Rattle.kube_schema.proofs.node.CompiledSchema.property_count.Goals as goal

pub returns : goal.returns
returns c = c.property_count.ensures.count ∙ ap (λ n. length (names (named_of n))) c.root.ensures
