use Rattle.std.proofs.Common.{ap, ◌∙◌}
use Rattle.kube_schema.specs.Tree.{additional_of}
use Rattle.kube_schema.proofs.node.CompiledSchema.additional_properties.Goals as goal

pub returns : goal.returns
returns c = c.additional_properties.ensures ∙ ap (additional_of) c.root.ensures
