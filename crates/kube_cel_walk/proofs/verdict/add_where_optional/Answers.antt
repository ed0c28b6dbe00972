use Rattle.cel.specs.Bindings.{bindings_of, functions_of}
use Rattle.cel_value.specs.View.{view as cel_view}
use Rattle.kube_cel_walk.proofs.verdict.add_where_optional.Goals as goal
use Rattle.kube_cel_walk.specs.Errors.{error_view}
use Rattle.kube_cel_walk.specs.Paths.{path_view}
use Rattle.kube_cel_walk.specs.Verdicts.{bound_verdict, list_of_option, optional_old_at, with_old}
use Rattle.kube_schema_rules.specs.Compilation.{result_view}
use Rattle.std.proofs.Common.{◌++◌, ◌∷◌, codes, map, option_map, sym, ap, ◌∙◌}

pub returns-in_ok-add_with_old-in-Some-clause-found : goal.returns-in_ok-add_with_old-in-Some-clause-found
unfolding optional_old_at
returns-in_ok-add_with_old-in-Some-clause-found g c = λ b h.
    let before = map error_view c.args.errors.now.items in
    let path = path_view c.args.path.now in
    let rule = result_view c.args.rule.now in
    let e = bindings_of c.args.context.now in
    let is = ap (option_map cel_view) (sym c.in-Some.is) ∙ c.in_ok-old.ensures.value in
    c.in_ok-add_with_old-in-Some.ensures.found b h
    ∙ ap (λ l. before ++ list_of_option (bound_verdict l b ((codes "oldSelf", cel_view c.in-Some.old) ∷ e) path rule)) (g.met.N.Node.one_library (functions_of c.args.context.now))
    ∙ ap (λ o. before ++ list_of_option (bound_verdict g.N.Node.form.library b (with_old o e) path rule)) is

pub returns-in_ok-add_where_bound-in-None-clause-found : goal.returns-in_ok-add_where_bound-in-None-clause-found
unfolding optional_old_at
returns-in_ok-add_where_bound-in-None-clause-found g c = λ b h.
    let before = map error_view c.args.errors.now.items in
    let path = path_view c.args.path.now in
    let rule = result_view c.args.rule.now in
    let e = bindings_of c.args.context.now in
    let is = ap (option_map cel_view) (sym c.in-None.is) ∙ c.in_ok-old.ensures.value in
    c.in_ok-add_where_bound-in-None.ensures.found b h
    ∙ ap (λ l. before ++ list_of_option (bound_verdict l b e path rule)) (g.met.N.Node.one_library (functions_of c.args.context.now))
    ∙ ap (λ o. before ++ list_of_option (bound_verdict g.N.Node.form.library b (with_old o e) path rule)) is
