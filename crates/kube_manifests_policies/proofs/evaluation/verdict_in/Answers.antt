use Rattle.cel_patterns.proofs.Books.{Extends-trans}
use Rattle.cel.specs.Entries.{entries_of}
use Rattle.cel.specs.Extensions.{HoldsForExtensions}
use Rattle.kube_manifests_policies.proofs.Decided.{by_both}
use Rattle.kube_manifests_policies.proofs.evaluation.verdict_in.Goals as goal
use Rattle.kube_manifests_policies.specs.Reports.{results_as}
use Rattle.kube_manifests_documents.specs.Policies.{item_view, policy_view}
use Rattle.kube_manifests_policies.specs.Scopes.{outcome_or_reason, scope_view}
use Rattle.kube_manifests_policies.specs.Verdicts.{Labelled, VerdictData, decision_of, result_view}
use Rattle.kube_manifests_policies.specs.declared.reports.Subject.TheVariants.{Annotation, Validation}
use Rattle.std.proofs.Common.{◌≡◌, List, map, sym, ap, ◌∙◌}
use Rattle.std.proofs.lemmas.Result.{IfOk-at_ok}

pub returns-clause-verdict : goal.returns-clause-verdict
returns-clause-verdict c =
    let s = scope_view c.args.scope in
    let p = policy_view c.args.policy.now in
    let cs = map result_view c.args.conditions.items in
    let vs = map result_view c.in_ok-validations.validations.items in
    let ws = map result_view c.in_ok-annotations.annotations.items in
    let xs = map item_view c.as_slice-items.result.now in
    let ys = map item_view c.as_slice-items-2.result.now in
    let d = c.decision_of-decision.result in
    let same : c.args.scope ≡ c.in_ok-validations.scope = cc c.in_ok-validations.ensures.1 in
    let last : c.in_ok-validations.scope ≡ c.in_ok-annotations.scope = cc c.in_ok-annotations.ensures.1 in
    let first : HoldsForExtensions (entries_of c.results_as-validations.new.book) vs (λ b. results_as Validation (outcome_or_reason b s) xs) =
    IfOk-at_ok _ c.in_ok-validations.ensures.0 c.results_as-validations.ensures.reported in
    let second : HoldsForExtensions (entries_of c.results_as-annotations.new.book) ws (λ b. results_as Annotation (outcome_or_reason b (scope_view c.in_ok-validations.scope)) ys) =
    IfOk-at_ok _ c.in_ok-annotations.ensures.0 c.results_as-annotations.ensures.reported in
    let shown : List Labelled → VerdictData = λ ms. record { decision = d; conditions = cs; variables = ms; validations = vs; annotations = ws } in
    record {
      under = λ b a.
          let r = outcome_or_reason b s in
          ap shown (ap (λ k. map result_view k.missing.items) (sym (same ∙ last)))
          ∙ by_both r s.missing p cs vs ws d
          (first.under b (Extends-trans a c.results_as-annotations.ensures.keeps) ∙ ap (λ xs. results_as Validation r (map item_view xs)) c.as_slice-items.ensures.value)
          (second.under b a ∙ ap (λ k. results_as Annotation (outcome_or_reason b (scope_view k)) ys) (sym same) ∙ ap (λ ys. results_as Annotation r (map item_view ys)) c.as_slice-items-2.ensures.value)
          (c.decision_of-decision.ensures
          ∙ (λ i. decision_of p.ignores (map result_view (c.as_slice.ensures.value i)) (map result_view (c.as_slice-2.ensures.value i))));
    }
