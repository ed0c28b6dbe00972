use Rattle.std.proofs.Common.{map, ap, ◌∙◌}
use Rattle.kube_schema_rules.specs.Compilation.{compiled_seen}
use Rattle.kube_schema.proofs.node.SchemaNode.validations.Goals as goal

pub returns : goal.returns
returns c = ap (map compiled_seen) c.as_slice.ensures.value ∙ c.rules.ensures
