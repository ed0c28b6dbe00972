-- Trusted by the clauses of policies.
-- The decisions of policies (Kubernetes API reference, ValidatingAdmissionPolicySpec:
-- `matchConditions`, `failurePolicy`, `validations`, `auditAnnotations`).
use Rattle.kube_manifests_names.specs.Inputs.{input_name}
use Rattle.kube_manifests_names.specs.declared.inputs.Input.{Input}
use Rattle.kube_manifests_policies.specs.declared.verdict.Problem.{Problem}
use Rattle.kube_manifests_policies.specs.declared.verdict.Problem.TheVariants as problem
use Rattle.kube_manifests_policies.specs.declared.verdict.PolicyDecision.{PolicyDecision}
use Rattle.kube_manifests_policies.specs.declared.verdict.PolicyDecision.TheVariants.{Admitted, Denied, Ignored, Skipped, NotJudged}
use Rattle.kube_manifests_policies.specs.declared.verdict.PolicyResult.{PolicyResult}
use Rattle.kube_manifests_policies.specs.declared.verdict.PolicyVerdict.{PolicyVerdict}
use Rattle.kube_manifests_policies.specs.declared.verdict.ItemReport.{ItemReport}
use Rattle.kube_manifests_policies.specs.declared.verdict.ItemReport.TheVariants as variant
use Rattle.std.specs.List.{list_any}
use Rattle.std.specs.Prelude.{ℕ, List, ◌++◌, map, Bool, true, false, not, ◌&&◌, ◌||◌, if◌then◌else◌, Option, Some, None, codes, string_bytes}

-- the result of an expression
pub data ItemReportData : Type 0 where
  holds : ItemReportData
  -- false, with the message
  fails : List ℕ → ItemReportData
  -- an audit annotation with this text, and one that is left out
  says : List ℕ → ItemReportData
  nothing : ItemReportData
  erred : List ℕ → ItemReportData
  not_given : Input → ItemReportData
  -- it doesn't compile, for this reason
  not_compiled : List ℕ → ItemReportData

-- the report of an expression, with its source or its name
pub record Labelled : Type 0 where
  pub label : List ℕ
  pub reported : ItemReportData

pub record VerdictData : Type 0 where
  pub decision : PolicyDecision
  pub conditions : List Labelled
  pub variables : List Labelled
  pub validations : List Labelled
  pub annotations : List Labelled

abbrev pub with_report : List ℕ → ItemReportData → Labelled
with_report label reported = record { label = label; reported = reported }

-- ---- decisions

abbrev pub is_problem : Problem → ItemReportData → Bool
is_problem problem.Refused (not_compiled m) = true
is_problem problem.Refused _ = false
is_problem problem.False (fails m) = true
is_problem problem.False _ = false
is_problem problem.Error (erred m) = true
is_problem problem.Error _ = false
is_problem problem.NotGiven (not_given i) = true
is_problem problem.NotGiven _ = false

abbrev pub any_is : Problem → List Labelled → Bool
any_is m rs = list_any (λ r. is_problem m r.reported) rs

-- An API server refuses a policy with a condition that doesn't compile, so the policy is not judged then, whatever
-- failurePolicy is. Otherwise, if one condition is false, the policy is skipped, whatever the others are. If none is
-- false and one reads an input that isn't given, the policy is not judged. Otherwise, if one fails, failurePolicy
-- decides: the request is denied, or the policy is ignored. Otherwise the policy is evaluated.
abbrev pub after_conditions : Bool → List Labelled → Option PolicyDecision
after_conditions ignores rs = if any_is problem.Refused rs then Some NotJudged else (
    if any_is problem.False rs then Some Skipped else (
    if any_is problem.NotGiven rs then Some NotJudged else (
    if any_is problem.Error rs then Some (if ignores then Ignored else Denied) else None)))

-- Whether one of these doesn't compile. An API server refuses such a policy.
abbrev pub any_refused : List Labelled → List Labelled → Bool
any_refused vs as_ = any_is problem.Refused vs || any_is problem.Refused as_

-- A policy that an API server refuses is not judged, whatever failurePolicy is. Otherwise a validation that is false
-- denies the request. So does an error, unless failurePolicy is `Ignore`. If nothing denies it, and an expression
-- reads an input that isn't given, the policy is not judged, whatever failurePolicy is.
abbrev pub decision_of : Bool → List Labelled → List Labelled → PolicyDecision
decision_of ignores vs as_ = if any_refused vs as_ then NotJudged else (
    if any_is problem.False vs then Denied else (
    if not ignores && (any_is problem.Error vs || any_is problem.Error as_) then Denied else (
    if any_is problem.NotGiven vs || any_is problem.NotGiven as_ then NotJudged else Admitted)))

-- ---- texts

abbrev pub report_text : ItemReportData → List ℕ
report_text holds = codes "true"
report_text (fails m) = m
report_text (says s) = s
report_text nothing = codes "null"
report_text (erred m) = m
report_text (not_given i) = input_name i ++ codes " is not given"
report_text (not_compiled m) = m

abbrev pub decision_text : PolicyDecision → List ℕ
decision_text Admitted = codes "admitted"
decision_text Denied = codes "denied"
decision_text Skipped = codes "skipped"
decision_text Ignored = codes "skipped, as a match condition failed"
decision_text NotJudged = codes "not judged"

-- ---- views of the code's values

abbrev pub report_view : ItemReport → ItemReportData
report_view variant.True = holds
report_view (variant.False m) = fails (string_bytes m)
report_view (variant.Text s) = says (string_bytes s)
report_view variant.Null = nothing
report_view (variant.Error m) = erred (string_bytes m)
report_view (variant.NotGiven i) = not_given i
report_view (variant.NotCompiled m) = not_compiled (string_bytes m)

abbrev pub result_view : PolicyResult → Labelled
result_view r = record { label = string_bytes r.label; reported = report_view r.reported }

abbrev pub verdict_view : PolicyVerdict → VerdictData
verdict_view v = record {
  decision = v.decision;
  conditions = map result_view v.conditions.items;
  variables = map result_view v.variables.items;
  validations = map result_view v.validations.items;
  annotations = map result_view v.annotations.items;
}
