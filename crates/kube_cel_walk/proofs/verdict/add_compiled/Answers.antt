use Rattle.cel.specs.Bindings.{bindings_of, functions_of}
use Rattle.kube_cel_walk.proofs.Ruled.{optional_found, plain_found, skipped_found}
use Rattle.kube_cel_walk.proofs.verdict.add_compiled.Goals as goal
use Rattle.kube_cel_walk.specs.Errors.{error_view}
use Rattle.kube_cel_walk.specs.Paths.{path_view}
use Rattle.kube_cel_walk.specs.Verdicts.{bound_verdict, list_of_option, optional_old_at, with_old}
use Rattle.kube_cel_walk.specs.Visits.{visit_at}
use Rattle.kube_schema_rules.specs.Compilation.{result_view}
use Rattle.std.proofs.Common.{◌++◌, map, refl, sym, ap, ◌∙◌, append-nil}

pub returns-then-not-is_applicable-clause-found : goal.returns-then-not-is_applicable-clause-found
returns-then-not-is_applicable-clause-found g c = λ b h.
    let before = map error_view c.args.errors.now.items in
    let s = visit_at g.N.Node.seen c.args.state.now (path_view c.args.path.now) in
    let none = skipped_found g.N.Node.form b (bindings_of c.args.context.now) s (result_view c.args.rule.now) (sym c.is_applicable.ensures ∙ c.if-not-is_applicable.true) in
    sym (ap (λ o. before ++ list_of_option o) (sym none) ∙ append-nil before)

pub returns-then-is_old_optional-clause-found : goal.returns-then-is_old_optional-clause-found
returns-then-is_old_optional-clause-found g c = λ b h.
    let before = map error_view c.args.errors.now.items in
    let form = g.N.Node.form in
    let s = visit_at g.N.Node.seen c.args.state.now (path_view c.args.path.now) in
    let e = bindings_of c.args.context.now in
    c.in_ok-add_where_optional.ensures.found b h
    ∙ ap (λ o. before ++ list_of_option o) (optional_found form b e s (result_view c.args.rule.now)
    (bound_verdict form.library b (with_old (optional_old_at form s) e) (path_view c.args.path.now) (result_view c.args.rule.now)) (sym c.is_applicable.ensures ∙ c.if-not-is_applicable.false) (sym c.is_old_optional.ensures ∙ c.if-is_old_optional.true) refl)

pub returns-clause-found : goal.returns-clause-found
returns-clause-found g c = λ b h.
    let before = map error_view c.args.errors.now.items in
    let form = g.N.Node.form in
    let s = visit_at g.N.Node.seen c.args.state.now (path_view c.args.path.now) in
    let e = bindings_of c.args.context.now in
    let rule = result_view c.args.rule.now in
    c.in_ok-add_where_bound.ensures.found b h
    ∙ ap (λ l. before ++ list_of_option (bound_verdict l b e (path_view c.args.path.now) rule)) (g.met.N.Node.one_library (functions_of c.args.context.now))
    ∙ ap (λ o. before ++ list_of_option o) (plain_found form b e s rule (bound_verdict form.library b e (path_view c.args.path.now) rule) (sym c.is_applicable.ensures ∙ c.if-not-is_applicable.false) (sym c.is_old_optional.ensures ∙ c.if-is_old_optional.false) refl)
