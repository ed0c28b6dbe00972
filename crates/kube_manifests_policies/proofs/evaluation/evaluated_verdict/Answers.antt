use Rattle.cel_patterns.proofs.Books.{Extends-trans}
use Rattle.cel.specs.Entries.{entries_of}
use Rattle.cel.specs.Extensions.{HoldsForExtensions}
use Rattle.kube_manifests_policies.proofs.Alike.{Alike-trans, after_alike, reach_same}
use Rattle.kube_manifests_policies.proofs.Decided.{by_all, by_conditions}
use Rattle.kube_manifests_policies.proofs.evaluation.evaluated_verdict.Goals as goal
use Rattle.kube_manifests_documents.specs.Inputs.{inputs_view}
use Rattle.kube_manifests_names.specs.Inputs.{without_namespace}
use Rattle.kube_manifests_policies.specs.Reports.{results_as}
use Rattle.kube_manifests_documents.specs.Policies.{item_view, policy_view}
use Rattle.kube_manifests_policies.specs.Scopes.{Alike, first_scope, outcome_or_reason, scope_for, scope_view, variables_after}
use Rattle.kube_manifests_policies.specs.Verdicts.{after_conditions, result_view}
use Rattle.kube_manifests_policies.specs.declared.reports.Subject.TheVariants.{Condition}
use Rattle.std.proofs.Common.{map, sym, ap, ◌∙◌, subst}
use Rattle.std.proofs.lemmas.Result.{IfOk-at_ok}

pub returns-in-Some-clause-verdict : goal.returns-in-Some-clause-verdict
returns-in-Some-clause-verdict c =
    let v = inputs_view c.args.inputs.now in
    let p = policy_view c.args.policy.now in
    let rs = map result_view c.in_ok-conditions.conditions.items in
    let reported : HoldsForExtensions (entries_of c.results_as-conditions.new.book) rs (λ b. results_as Condition (outcome_or_reason b (scope_view c.in_ok-scope.scope)) (map item_view c.as_slice-items.result.now)) =
    IfOk-at_ok _ c.in_ok-conditions.ensures.0 c.results_as-conditions.ensures.reported in
    record {
      under = λ b a.
          c.verdict_of_conditions.ensures
          ∙ by_conditions b v p rs c.in-Some.decision
          (reported.under b a ∙ ap (λ xs. results_as Condition (outcome_or_reason b (scope_view c.in_ok-scope.scope)) (map item_view xs)) c.as_slice-items.ensures.value
          ∙ ap (λ r. results_as Condition r p.conditions) (reach_same b (scope_view c.in_ok-scope.scope) (first_scope (without_namespace v)) c.in_ok-scope.ensures.scope))
          (sym (c.after_conditions.ensures ∙ ap (λ xs. after_conditions p.ignores (map result_view xs)) c.as_slice.ensures.value) ∙ c.in-Some.is);
    }

pub returns-in_ok-verdict-in-None-clause-verdict : goal.returns-in_ok-verdict-in-None-clause-verdict
returns-in_ok-verdict-in-None-clause-verdict c =
    let v = inputs_view c.args.inputs.now in
    let p = policy_view c.args.policy.now in
    let rs = map result_view c.in_ok-conditions.conditions.items in
    let reported : HoldsForExtensions (entries_of c.results_as-conditions.new.book) rs (λ b. results_as Condition (outcome_or_reason b (scope_view c.in_ok-scope.scope)) (map item_view c.as_slice-items.result.now)) =
    IfOk-at_ok _ c.in_ok-conditions.ensures.0 c.results_as-conditions.ensures.reported in
    let s = scope_view c.in_ok-all-in-None.all in
    let xs = c.as_slice-variables.result.now in
    record {
      under = λ b a.
          let known = Extends-trans a c.in_ok-verdict-in-None.ensures.keeps in
          c.in_ok-verdict-in-None.ensures.verdict.under b a
          ∙ by_all b v p rs s
          (reported.under b (Extends-trans known c.in_ok-all-in-None.ensures.keeps)
          ∙ ap (λ xs. results_as Condition (outcome_or_reason b (scope_view c.in_ok-scope.scope)) (map item_view xs)) c.as_slice-items.ensures.value
          ∙ ap (λ r. results_as Condition r p.conditions) (reach_same b (scope_view c.in_ok-scope.scope) (first_scope (without_namespace v)) c.in_ok-scope.ensures.scope))
          (sym (c.after_conditions.ensures ∙ ap (λ xs. after_conditions p.ignores (map result_view xs)) c.as_slice.ensures.value) ∙ c.in-None.is)
          (subst (λ ys. Alike s (variables_after b (scope_for v (map item_view ys)) (map item_view ys))) c.as_slice-variables.ensures.value
          (Alike-trans (c.in_ok-all-in-None.ensures.scope b known)
          (after_alike b (scope_view c.in_ok-first-in-None.first) (scope_for v (map item_view xs)) c.in_ok-first-in-None.ensures.scope (map item_view xs))));
    }

pub returns-in_ok-verdict-in-None-clause-keeps : goal.returns-in_ok-verdict-in-None-clause-keeps
returns-in_ok-verdict-in-None-clause-keeps c = Extends-trans c.in_ok-verdict-in-None.ensures.keeps (Extends-trans c.in_ok-all-in-None.ensures.keeps c.results_as-conditions.ensures.keeps)

pub returns-in_err-verdict-in-None-clause-keeps : goal.returns-in_err-verdict-in-None-clause-keeps
returns-in_err-verdict-in-None-clause-keeps c = Extends-trans c.in_err-verdict-in-None.ensures.keeps (Extends-trans c.in_ok-all-in-None.ensures.keeps c.results_as-conditions.ensures.keeps)

pub returns-in_err-all-in-None-clause-keeps : goal.returns-in_err-all-in-None-clause-keeps
returns-in_err-all-in-None-clause-keeps c = Extends-trans c.with_variables.ensures.keeps c.results_as-conditions.ensures.keeps
