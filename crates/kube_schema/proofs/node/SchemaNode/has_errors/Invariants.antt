use Rattle.std.proofs.Common.{◌≡◌, drop, is_err, map}
use Rattle.std.specs.List.{list_any}
use Rattle.kube_schema_rules.specs.Compilation.{compiled_seen}
use Rattle.kube_schema.proofs.node.SchemaNode.has_errors.Given as goal

abbrev pub invariant-loop-validation : goal.invariant-loop-validation
invariant-loop-validation l = list_any is_err (map compiled_seen (drop l.validation-index l.validation-items)) ≡ list_any is_err (map compiled_seen l.validation-items)
