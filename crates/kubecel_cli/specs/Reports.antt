-- Trusted by the clauses of kubecel.
-- The reports on definitions and policies, given the library's answers.
use Rattle.kube_manifests_policies.specs.Verdicts.{Labelled, ItemReportData, VerdictData, holds, fails, says, nothing, erred, not_given, not_compiled, report_text}
use Rattle.kube_manifests_policies.specs.declared.verdict.PolicyDecision.{PolicyDecision}
use Rattle.kube_manifests_policies.specs.declared.verdict.PolicyDecision.TheVariants as decision
use Rattle.kube_manifests_review.specs.Candidates.{Finding, kind_text}
use Rattle.kube_manifests_review.specs.Unread.{unread_findings}
use Rattle.kube_manifests_review.specs.declared.finding.ReviewKind.{ReviewKind}
use Rattle.kube_manifests_review.specs.declared.finding.ReviewKind.TheVariants as kind
use Rattle.kubecel_check.specs.Judgements.{item_of, remark}
use Rattle.kubecel_cli.specs.declared.place.Expressions as declared
use Rattle.kubecel_io.specs.Objects.{each_item, text_at}
use Rattle.kubecel_io.specs.Reads.{Found}
use Rattle.kubecel_report.specs.Items.{FindingData, ItemData}
use Rattle.kubecel_report.specs.declared.item.Verdict.{Verdict}
use Rattle.kubecel_report.specs.declared.item.Verdict.TheVariants as verdict
use Rattle.serde_json.specs.Data.{Data}
use Rattle.serde_json.specs.Find.{as_array, get}
use Rattle.std.specs.List.{find, flat_map, list_any, position_or_len}
use Rattle.std.specs.Option.{option_map_or}
use Rattle.std.specs.Prelude.{ℕ, List, [], ◌∷◌, ◌++◌, map, option_and_then, Bool, true, false, if◌then◌else◌, codes, decimal}
use Rattle.std.specs.Str.{bytes_eq}

-- ---- definitions

abbrev pub review_finding : Finding → FindingData
review_finding f = record {
  location = f.pointer;
  rule = f.rule;
  message = kind_text f.kind ++ (codes ": " ++ f.message);
}

-- whether a finding says that this tool lacks something
abbrev pub is_unsupported : ReviewKind → Bool
is_unsupported (kind.Lint k) = false
is_unsupported kind.Document = false
is_unsupported kind.Call = false
is_unsupported kind.Pattern = false
is_unsupported kind.Literal = false
is_unsupported kind.Unsupported = true
is_unsupported kind.Message = false
is_unsupported kind.Keyword = false
is_unsupported kind.Rules = false
is_unsupported kind.NoRules = false

abbrev pub pass_unless : List Finding → Verdict
pass_unless [] = verdict.Pass
pass_unless (f ∷ fs) = verdict.Fail

-- a definition that uses what this tool lacks isn't judged; any other finding fails it
abbrev pub review_verdict : List Finding → Verdict
review_verdict fs =
    if list_any (λ f. is_unsupported f.kind) fs then verdict.NotJudged else pass_unless fs

abbrev pub reviewed_item : Found → List Finding → ItemData
reviewed_item f findings = item_of f (review_verdict findings) (map review_finding findings)

abbrev pub no_crd_item : Found → ItemData
no_crd_item f = item_of f verdict.NotJudged
    (remark (codes "not a CustomResourceDefinition of apiextensions.k8s.io/v1"))

-- ---- definitions with parts that aren't read

abbrev pub is_none : List FindingData → Bool
is_none [] = true
is_none (f ∷ fs) = false

-- nothing can be judged by such a definition; a definition that is read whole isn't reported
abbrev pub unless_none : Found → List FindingData → List ItemData
unless_none f findings = if is_none findings then [] else item_of f verdict.NotJudged findings ∷ []

abbrev pub unread_items : Found → List ItemData
unread_items f = unless_none f (map review_finding (unread_findings f.value))

-- ---- policies

abbrev pub decision_verdict : PolicyDecision → Verdict
decision_verdict decision.Admitted = verdict.Pass
decision_verdict decision.Denied = verdict.Fail
decision_verdict decision.Skipped = verdict.Skip
decision_verdict decision.Ignored = verdict.Skip
decision_verdict decision.NotJudged = verdict.NotJudged

-- whether the result of an expression isn't reported
abbrev pub is_quiet : ItemReportData → Bool
is_quiet holds = true
is_quiet (fails m) = false
is_quiet (says s) = false
is_quiet nothing = true
is_quiet (erred m) = false
is_quiet (not_given i) = false
is_quiet (not_compiled m) = false

-- a list of expressions in a policy: its field in `spec`, and the fields of an entry that name the entry and hold its
-- expression
pub record Expressions : Type 0 where
  pub list : List ℕ
  pub label : List ℕ
  pub expression : List ℕ

abbrev pub conditions : Expressions
conditions = record { list = codes "matchConditions"; label = codes "name"; expression = codes "expression" }

abbrev pub variables : Expressions
variables = record { list = codes "variables"; label = codes "name"; expression = codes "expression" }

abbrev pub validations : Expressions
validations = record { list = codes "validations"; label = codes "expression"; expression = codes "expression" }

abbrev pub annotations : Expressions
annotations = record { list = codes "auditAnnotations"; label = codes "key"; expression = codes "valueExpression" }

-- the entries of such a list in a policy, none if there is no such list
abbrev pub entries_in : Expressions → Data → List Data
entries_in e d =
    option_map_or each_item (option_and_then as_array (option_and_then (get e.list) (get (codes "spec") d))) []

abbrev pub is_labelled : Expressions → List ℕ → Data → Bool
is_labelled e label d = bytes_eq (text_at e.label d) label

-- one of these entries is named by its label; by its number if the label is its expression: that of the first entry with it
abbrev pub name_of : Expressions → List Data → List ℕ → List ℕ
name_of e ds label =
    if bytes_eq e.label e.expression then decimal (position_or_len (is_labelled e label) ds) else label

-- the path of an entry in the policy, such as `spec.validations[0]` and `spec.variables[limit]`, as an API server writes
-- those of fields
abbrev pub path_of : Expressions → List Data → List ℕ → List ℕ
path_of e ds label = codes "spec." ++ (e.list ++ (codes "[" ++ (name_of e ds label ++ codes "]")))

-- the expression of the first entry with this label
abbrev pub expression_of : Expressions → List Data → List ℕ → List ℕ
expression_of e ds label = option_map_or (text_at e.expression) (find (is_labelled e label) ds) []

-- the findings of an expression of a policy
abbrev pub result_findings : Expressions → Data → Labelled → List FindingData
result_findings e d r =
    if is_quiet r.reported then []
    else record {
      location = path_of e (entries_in e d) r.label;
      rule = expression_of e (entries_in e d) r.label;
      message = report_text r.reported;
    } ∷ []

abbrev pub verdict_findings : Data → VerdictData → List FindingData
verdict_findings d v =
    flat_map (result_findings conditions d) v.conditions
    ++ (flat_map (result_findings variables d) v.variables
    ++ (flat_map (result_findings validations d) v.validations
    ++ flat_map (result_findings annotations d) v.annotations))

abbrev pub policy_item : Found → VerdictData → ItemData
policy_item f v = item_of f (decision_verdict v.decision) (verdict_findings f.value v)

-- ---- views of the code's values

abbrev pub expressions_view : declared.Expressions → Expressions
expressions_view e = record { list = e.list.now; label = e.label.now; expression = e.expression.now }
