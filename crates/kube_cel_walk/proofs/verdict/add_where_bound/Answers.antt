use Rattle.cel.specs.Bindings.{bindings_of, functions_of}
use Rattle.cel.specs.Outcome.{outcome_view}
use Rattle.kube_cel_walk.proofs.Ruled.{outcome_found, true_found}
use Rattle.kube_cel_walk.proofs.verdict.add_where_bound.Goals as goal
use Rattle.kube_cel_walk.specs.Errors.{error_view}
use Rattle.kube_cel_walk.specs.Paths.{path_view}
use Rattle.kube_cel_walk.specs.Verdicts.{list_of_option, outcome_in}
use Rattle.kube_schema_rules.specs.Compilation.{result_view}
use Rattle.std.proofs.Common.{◌++◌, map, sym, ap, ◌∙◌, append-nil}

pub returns-then-is_true-clause-found : goal.returns-then-is_true-clause-found
unfolding outcome_in
returns-then-is_true-clause-found g c = λ b h.
    let old = map error_view c.args.errors.now.items in
    let library = g.F.Functions.library (functions_of c.args.context.now) in
    let none = true_found library b (bindings_of c.args.context.now) (path_view c.args.path.now) (result_view c.args.rule.now) (outcome_view c.in_ok-outcome.outcome) (c.in_ok-outcome.ensures.value.under b h) (sym c.is_true.ensures ∙ c.if-is_true.true) in
    sym (ap (λ o. old ++ list_of_option o) none ∙ append-nil old)

pub returns-clause-found : goal.returns-clause-found
unfolding outcome_in
returns-clause-found g c = λ b h.
    let old = map error_view c.args.errors.now.items in
    let library = g.F.Functions.library (functions_of c.args.context.now) in
    let known = c.in_ok-outcome.ensures.value.under b (c.in_ok-add_by_outcome.ensures.keeps b h) in
    c.in_ok-add_by_outcome.ensures.found b h
    ∙ ap (λ o. old ++ list_of_option o) (outcome_found library b (bindings_of c.args.context.now) (path_view c.args.path.now) (result_view c.args.rule.now) (outcome_view c.in_ok-outcome.outcome) known)
