-- What decides the verdict of a policy.
use Rattle.cel.specs.Book.{Book}
use Rattle.kube_manifests_documents.specs.Faults.{◌>>=◌}
use Rattle.kube_manifests_documents.specs.Inputs.{Variables}
use Rattle.kube_manifests_policies.proofs.Alike.{reach_same}
use Rattle.kube_manifests_documents.specs.Faults.{FaultData}
use Rattle.kube_manifests_names.specs.Inputs.{without_namespace}
use Rattle.kube_manifests_policies.specs.Reports.{evaluated_verdict, policy_verdict, verdict_of, results_as, verdict_after, verdict_in, verdict_of_conditions}
use Rattle.kube_manifests_documents.specs.Policies.{PolicyData, policy_of}
use Rattle.kube_manifests_policies.specs.Scopes.{Alike, Reach, ScopeData, first_scope, outcome_or_reason, scope_for, variables_after}
use Rattle.kube_manifests_policies.specs.Verdicts.{Labelled, VerdictData, after_conditions, decision_of}
use Rattle.kube_manifests_policies.specs.declared.reports.Subject.TheVariants.{Annotation, Condition, Validation}
use Rattle.kube_manifests_policies.specs.declared.verdict.PolicyDecision.{PolicyDecision}
use Rattle.serde_json.specs.Data.{Data as Json}
use Rattle.std.proofs.Common.{◌≡◌, List, Option, Some, None, Ok, Err, sym, ap, ◌∙◌}

verdict_with : (b : Book) (v : Variables) (p : PolicyData) (rs : List Labelled) (o : Option PolicyDecision)
    → rs ≡ results_as Condition (outcome_or_reason b (first_scope (without_namespace v))) p.conditions → after_conditions p.ignores rs ≡ o → verdict_after b v p rs o ≡ evaluated_verdict b v p
unfolding evaluated_verdict
verdict_with b v p rs o e q = sym (ap (verdict_after b v p rs) q) ∙ ap (λ c. verdict_after b v p c (after_conditions p.ignores c)) e

-- the match conditions decide
pub by_conditions : (b : Book) (v : Variables) (p : PolicyData) (rs : List Labelled) (d : PolicyDecision)
    → rs ≡ results_as Condition (outcome_or_reason b (first_scope (without_namespace v))) p.conditions → after_conditions p.ignores rs ≡ Some d → verdict_of_conditions rs d ≡ evaluated_verdict b v p
by_conditions b v p rs d e q = verdict_with b v p rs (Some d) e q

-- the whole policy decides
pub by_all : (b : Book) (v : Variables) (p : PolicyData) (rs : List Labelled) (s : ScopeData)
    → rs ≡ results_as Condition (outcome_or_reason b (first_scope (without_namespace v))) p.conditions → after_conditions p.ignores rs ≡ None
    → Alike s (variables_after b (scope_for v p.variables) p.variables) → verdict_in (outcome_or_reason b s) s.missing p rs ≡ evaluated_verdict b v p
by_all b v p rs s e q h =
    let t = variables_after b (scope_for v p.variables) p.variables in
    (λ i. verdict_in (reach_same b s t h i) (h.missing i) p rs) ∙ verdict_with b v p rs None e q

-- validations and audit annotations decide
pub by_both : (r : Reach) (missing : List Labelled) (p : PolicyData) (rs vs ws : List Labelled) (d : PolicyDecision)
    → vs ≡ results_as Validation r p.validations → ws ≡ results_as Annotation r p.annotations → d ≡ decision_of p.ignores vs ws
    → ◌≡◌ {A = VerdictData} (record { decision = d; conditions = rs; variables = missing; validations = vs; annotations = ws }) (verdict_in r missing p rs)
unfolding verdict_in
by_both r missing p rs vs ws d v w q = λ i. record {
  decision = (q ∙ (λ j. decision_of p.ignores (v j) (w j))) i;
  conditions = rs;
  variables = missing;
  validations = v i;
  annotations = w i;
}

-- ---- documents

-- for a document that is no policy
pub of_fault : (b : Book) (v : Variables) (d : Json) (f : FaultData) → Err f ≡ policy_of d → Err f ≡ verdict_of b v d
unfolding verdict_of
of_fault b v d f e = ap (λ k. k >>= (λ p. Ok (policy_verdict b v p))) e

-- for a document that is a policy
pub of_policy : (b : Book) (v : Variables) (d : Json) (p : PolicyData) → Ok p ≡ policy_of d → Ok (policy_verdict b v p) ≡ verdict_of b v d
unfolding verdict_of
of_policy b v d p e = ap (λ k. k >>= (λ p. Ok (policy_verdict b v p))) e
