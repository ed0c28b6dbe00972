use Rattle.std.proofs.Common.{ap, ◌∙◌}
use Rattle.kube_schema.specs.Tree.{items_of}
use Rattle.kube_schema.proofs.node.CompiledSchema.items.Goals as goal

pub returns : goal.returns
returns c = c.items.ensures ∙ ap (items_of) c.root.ensures
