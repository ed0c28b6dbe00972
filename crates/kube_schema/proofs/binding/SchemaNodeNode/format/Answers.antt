use Rattle.std.proofs.Common.{ap, ◌∙◌}
use Rattle.kube_schema.specs.CompiledConversion.{tree_accessors}
use Rattle.kube_schema.specs.Tree.{Own}
use Rattle.kube_schema.proofs.binding.SchemaNodeNode.format.Goals as goal

pub returns : goal.returns
unfolding tree_accessors
returns g c = c.string_format.ensures ∙ ap (λ (o : Own). o.format) c.keywords.ensures
