use Rattle.cel.specs.Bindings.{bindings_of}
use Rattle.kube_cel_walk.proofs.Ruled.{compiled_found, malformed_found}
use Rattle.kube_cel_walk.proofs.verdict.add_verdict.Goals as goal
use Rattle.kube_cel_walk.specs.Errors.{error_view}
use Rattle.kube_cel_walk.specs.Paths.{path_view}
use Rattle.kube_cel_walk.specs.RuleErrors.{malformed_error}
use Rattle.kube_cel_walk.specs.Verdicts.{compiled_verdict, list_of_option}
use Rattle.kube_cel_walk.specs.Visits.{visit_at}
use Rattle.kube_schema_rules.specs.Compilation.{compiled_seen, error_view as malformed_view, result_view}
use Rattle.std.proofs.Common.{◌++◌, map, refl, sym, ap, ◌∙◌}

pub returns-in_ok-add_malformed-in-Err-clause-found : goal.returns-in_ok-add_malformed-in-Err-clause-found
returns-in_ok-add_malformed-in-Err-clause-found g c = λ b h.
    let before = map error_view c.args.errors.now.items in
    let malformed = malformed_view c.in-Err.error in
    let s = visit_at g.N.Node.seen c.args.state.now (path_view c.args.path.now) in
    c.in_ok-add_malformed-in-Err.ensures
    ∙ ap (λ o. before ++ list_of_option o) (malformed_found g.N.Node.form b (bindings_of c.args.context.now) s (compiled_seen c.args.rule.now) malformed
    (malformed_error (path_view c.args.path.now) malformed) (ap compiled_seen (sym c.in-Err.is)) refl)

pub returns-in_ok-add_compiled-in-Ok-clause-found : goal.returns-in_ok-add_compiled-in-Ok-clause-found
returns-in_ok-add_compiled-in-Ok-clause-found g c = λ b h.
    let before = map error_view c.args.errors.now.items in
    let e = bindings_of c.args.context.now in
    let s = visit_at g.N.Node.seen c.args.state.now (path_view c.args.path.now) in
    let compiled = result_view c.in-Ok.rule in
    c.in_ok-add_compiled-in-Ok.ensures.found b h
    ∙ ap (λ o. before ++ list_of_option o) (compiled_found g.N.Node.form b e s (compiled_seen c.args.rule.now) compiled (compiled_verdict g.N.Node.form b e s compiled) (ap compiled_seen (sym c.in-Ok.is)) refl)
