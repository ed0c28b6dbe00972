use Rattle.std.proofs.Common.{◌≡◌, map, IfOk, subst}
use Rattle.kube_schema_rules.specs.Compilation.{error_view}
use Rattle.kube_schema.specs.Tree.{Node, malformed_in, own}
use Rattle.kube_schema.proofs.node.CompiledSchema.compilation_errors.Goals as goal

pub returns-clause-errors : goal.returns-clause-errors
returns-clause-errors c =
    subst (λ (n : Node). IfOk c.compilation_errors.result (λ v. map (λ e. error_view e.now) v.items ≡ malformed_in (own n).validations)) c.root.ensures c.compilation_errors.ensures.errors
