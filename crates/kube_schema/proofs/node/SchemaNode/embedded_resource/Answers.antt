use Rattle.std.proofs.Common.{ap, ◌∙◌}
use Rattle.kube_schema.specs.Tree.{Own}
use Rattle.kube_schema.proofs.node.SchemaNode.embedded_resource.Goals as goal

pub returns : goal.returns
returns g c = c.is_embedded.ensures ∙ ap (λ (o : Own). o.embedded) c.keywords.ensures
