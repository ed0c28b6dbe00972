use Rattle.kube_cel_walk.proofs.verdict.add_by_outcome.Goals as goal
use Rattle.kube_cel_walk.specs.Errors.{error_view}
use Rattle.kube_cel_walk.specs.Paths.{path_view}
use Rattle.kube_cel_walk.specs.Verdicts.{judged_error, list_of_option, outcome_in}
use Rattle.kube_schema_rules.specs.Rules.{rule_view}
use Rattle.std.proofs.Common.{◌++◌, map, ap, ◌∙◌}

pub returns-clause-found : goal.returns-clause-found
unfolding outcome_in
returns-clause-found g c = λ b h.
    let before = map error_view c.args.errors.now.items in
    c.in_ok-push_listed.ensures
    ∙ ap (λ o. before ++ list_of_option o)
    (c.in_ok-error.ensures ∙ ap (judged_error (path_view c.args.path.now) (rule_view c.args.rule.now.rule)) (c.in_ok-judgement.ensures.judged.under b h))
