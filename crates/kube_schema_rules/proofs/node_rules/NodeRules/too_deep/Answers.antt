use Rattle.std.proofs.Common.{[], ◌∷◌, ◌++◌, map, Result, Err, ap, ◌∙◌}
use Rattle.kube_schema_rules.specs.declared.compilation.CompilationError.{CompilationError}
use Rattle.kube_schema_rules.specs.declared.compilation.CompilationError.TheVariants as error
use Rattle.kube_schema_rules.specs.declared.result.CompilationResult.{CompilationResult}
use Rattle.kube_schema_rules.specs.Compilation.{compiled_seen}
use Rattle.kube_schema_rules.proofs.node_rules.NodeRules.too_deep.Goals as goal

pub returns-clause-rules : goal.returns-clause-rules
returns-clause-rules c =
    let deep : Result CompilationResult CompilationError = Err (error.SchemaTooDeep c.args.depth) in
    ap (λ r. map compiled_seen r.items) c.in_ok-made.ensures.rules
    ∙ ap (map compiled_seen) (c.in_ok-push.ensures.items ∙ ap (λ rs. rs ++ deep ∷ []) c.in_ok-rules.ensures.items)
