use Rattle.std.proofs.Common.{ap, ◌∙◌}
use Rattle.kube_schema.specs.Tree.{Own}
use Rattle.kube_schema.proofs.node.SchemaNode.default.Goals as goal

pub returns : goal.returns
returns g c = c.default.ensures ∙ ap (λ (o : Own). o.default) c.keywords.ensures
