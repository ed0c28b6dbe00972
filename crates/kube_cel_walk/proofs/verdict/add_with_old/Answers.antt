use Rattle.cel.proofs.Bound.{bound}
use Rattle.cel.specs.Bindings.{binding, bindings_of, functions_of}
use Rattle.cel_value.specs.View.{view as cel_view}
use Rattle.kube_cel_walk.proofs.Ruled.{verdict_same}
use Rattle.kube_cel_walk.proofs.verdict.add_with_old.Goals as goal
use Rattle.kube_cel_walk.specs.Errors.{error_view}
use Rattle.kube_cel_walk.specs.Paths.{path_view}
use Rattle.kube_cel_walk.specs.Verdicts.{bound_verdict, list_of_option}
use Rattle.kube_schema_rules.specs.Compilation.{result_view}
use Rattle.std.proofs.Common.{◌++◌, ◌∷◌, codes, map, refl, ap, ◌∙◌}

pub returns-clause-found : goal.returns-clause-found
returns-clause-found g c = λ b h.
    let old = map error_view c.args.errors.now.items in
    let path = path_view c.args.path.now in
    let rule = result_view c.args.rule.now in
    let e = bindings_of c.args.context.now in
    let f = bindings_of c.add_variable.new.self in
    let v = cel_view c.args.old in
    let functions = c.add_variable.ensures.functions ∙ c.new_inner_scope-inner.ensures.functions in
    c.in_ok-add_where_bound.ensures.found b h
    ∙ ap (λ l. old ++ list_of_option (bound_verdict (g.F.Functions.library l) b f path rule)) functions
    ∙ ap (λ o. old ++ list_of_option o) (verdict_same (g.F.Functions.library (functions_of c.args.context.now)) b path rule f ((codes "oldSelf", v) ∷ e)
    (λ x. bound x (codes "oldSelf") v v (binding x f) (binding x (bindings_of c.new_inner_scope-inner.result)) e
    (c.in_ok-add_variable.ensures.variables x) refl (ap (λ e. binding x e) c.new_inner_scope-inner.ensures.variables)))
