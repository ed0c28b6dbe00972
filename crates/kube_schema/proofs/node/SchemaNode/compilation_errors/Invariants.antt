use Rattle.std.proofs.Common.{◌≡◌, ◌++◌, drop, map}
use Rattle.kube_schema_rules.specs.Compilation.{compiled_seen, error_view}
use Rattle.kube_schema.specs.Tree.{malformed_in}
use Rattle.kube_schema.proofs.node.SchemaNode.compilation_errors.Given as goal

abbrev pub invariant-loop-validation : goal.invariant-loop-validation
invariant-loop-validation l =
    map (λ e. error_view e.now) l.errors.items ++ malformed_in (map compiled_seen (drop l.validation-index l.validation-items)) ≡ malformed_in (map compiled_seen l.validation-items)
