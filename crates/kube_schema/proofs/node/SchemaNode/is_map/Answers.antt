use Rattle.std.proofs.Common.{ap, ◌∙◌}
use Rattle.kube_schema.specs.Tree.{Own}
use Rattle.kube_schema.proofs.node.SchemaNode.is_map.Goals as goal

pub returns : goal.returns
returns g c = c.is_map.ensures ∙ ap (λ (o : Own). o.is_map) c.keywords.ensures
