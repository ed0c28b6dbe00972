use Rattle.std.proofs.Common.{ap, ◌∙◌}
use Rattle.kube_schema.specs.Tree.{Own}
use Rattle.kube_schema.proofs.node.SchemaNode.preserve_unknown_fields.Goals as goal

pub returns : goal.returns
returns g c = c.preserves.ensures ∙ ap (λ (o : Own). o.preserves) c.keywords.ensures
