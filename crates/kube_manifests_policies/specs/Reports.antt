-- Trusted by the clauses of policies.
-- The results of a policy's match conditions, validations and audit annotations, and the policy's
-- verdict (Kubernetes API reference, ValidatingAdmissionPolicySpec; Kubernetes documentation,
-- "Validating Admission Policy").
use Rattle.cel.specs.Checks as check
use Rattle.cel.specs.Checks.{JudgementData, Trees, Unread, judgement, trees_of, unread_in}
use Rattle.cel.specs.Book.{Book, IsBook}
use Rattle.cel.specs.Outcome.{Outcome}
use Rattle.cel_syntax.specs.Reading.{tree_of}
use Rattle.cel_value.specs.Data.{Data}
use Rattle.cel_value.specs.Kinds.{kind_name}
use Rattle.cel_value.specs.Parts.{text_in}
use Rattle.cel_value.specs.View.{kind_of}
use Rattle.cel_value.specs.declared.kind.Kind.{Kind}
use Rattle.cel_value.specs.declared.kind.Kind.TheVariants.{Null}
use Rattle.kube_manifests_documents.specs.Faults.{◌>>=◌}
use Rattle.kube_manifests_documents.specs.Inputs.{Variables}
use Rattle.kube_manifests_documents.specs.Faults.{FaultData, fault_view}
use Rattle.kube_manifests_names.specs.Inputs.{without_namespace}
use Rattle.kube_manifests_documents.specs.Policies.{ItemData, PolicyData, policy_of}
use Rattle.kube_manifests_policies.specs.Refusals.{is_refused, refusals_of}
use Rattle.kube_manifests_policies.specs.Scopes.{Reach, Reached, evaluation, fault_report, first_scope, outcome_or_reason, scope_for, unread_report, variables_after}
use Rattle.kube_manifests_policies.specs.Verdicts.{Labelled, ItemReportData, VerdictData, after_conditions, decision_of, fails, holds, not_compiled, nothing, says, report_text, report_view, verdict_view, with_report}
use Rattle.kube_manifests_documents.specs.declared.fault.PolicyFault.{PolicyFault}
use Rattle.kube_manifests_policies.specs.declared.reports.Subject.{Subject}
use Rattle.kube_manifests_policies.specs.declared.reports.Subject.TheVariants.{Annotation, Condition, Validation}
use Rattle.kube_manifests_policies.specs.declared.verdict.PolicyDecision.{PolicyDecision}
use Rattle.kube_manifests_policies.specs.declared.verdict.PolicyVerdict.{PolicyVerdict}
use Rattle.serde_json.specs.Data.{Data as Json}
use Rattle.std.specs.List.{list_any}
use Rattle.std.specs.Prelude.{◌≡◌, ◌==◌, nat_lt, ℕ, List, [], ◌∷◌, ◌++◌, length, map, Bool, true, false, not, ◌&&◌, if◌then◌else◌, Option, Some, None, option_map, Result, Ok, Err, codes}
use Rattle.std.specs.Str.{trim}

-- the final report
abbrev pub final_report : Result ItemReportData ItemReportData → ItemReportData
final_report (Ok reported) = reported
final_report (Err reported) = reported

-- ---- match conditions and validations

-- an API server refuses a policy with such an expression whose value is of another kind
abbrev pub not_bool_report : Kind → ItemReportData
not_bool_report k = not_compiled (codes "expression returned non-boolean: " ++ kind_name k)

-- the report of an entry by what it is judged to be; if it is false, this is made of what its
-- messageExpression came to
abbrev pub judged_report : (Option Reached → ItemReportData) → JudgementData Reached → ItemReportData
judged_report false_report check.holds = holds
judged_report false_report (check.fails m) = false_report m
judged_report false_report (check.not_bool k) = not_bool_report k
judged_report false_report (check.errs f) = fault_report f

abbrev pub false_condition : List ℕ → Option Reached → ItemReportData
false_condition name m = fails (codes "match condition '" ++ (name ++ codes "' is false"))

unfoldable pub condition_report : Reach → ItemData → ItemReportData
condition_report r x = final_report (do
  outcome ← evaluation r x.expression
  Ok (judged_report (false_condition x.label) (judgement None outcome)))

abbrev pub quoted : List ℕ → List ℕ
quoted expression = codes "failed expression: " ++ trim expression

abbrev pub message_or : List ℕ → List ℕ → List ℕ
message_or [] expression = quoted expression
message_or (c ∷ cs) expression = c ∷ cs

abbrev pub message_where : Option (List ℕ) → List ℕ → List ℕ
message_where None expression = quoted expression
message_where (Some m) expression = message_or (trim m) expression

-- the validation's message or, if that is blank or missing, one that quotes its expression
abbrev pub own_message : ItemData → List ℕ
own_message x = message_where x.message x.expression

-- the most bytes that the text of a messageExpression may have: 5 KiB
abbrev pub longest_message : ℕ
longest_message = 5120

abbrev pub is_line_feed : ℕ → Bool
is_line_feed c = c == 10

-- a text is taken for a message if it isn't empty, has no line break and isn't too long
abbrev pub is_message : List ℕ → Bool
is_message t = not (length t == 0) && (not (list_any is_line_feed t) && not (nat_lt longest_message (length t)))

abbrev pub message_from : ItemData → List ℕ → List ℕ
message_from x t = if is_message t then t else own_message x

-- The report of a validation that is false and whose messageExpression has this value. An API server refuses a policy
-- with a messageExpression that is no string.
abbrev pub message_value : ItemData → Data → Option (List ℕ) → ItemReportData
message_value x v (Some s) = fails (message_from x (trim s))
message_value x v None = not_compiled (codes "messageExpression returned non-string: " ++ kind_name (kind_of v))

abbrev pub message_outcome : ItemData → Outcome → ItemReportData
message_outcome x (Ok v) = message_value x v (text_in v)
message_outcome x (Err f) = fails (own_message x)

-- The same for a messageExpression that may not be evaluated, in which case the reason is appended to the
-- validation's own message.
abbrev pub message_report : ItemData → Reached → ItemReportData
message_report x (Ok o) = message_outcome x o
message_report x (Err reported) =
    fails (own_message x ++ (codes " (messageExpression: " ++ (report_text reported ++ codes ")")))

-- the report of a validation that is false
abbrev pub false_report : ItemData → Option Reached → ItemReportData
false_report x None = fails (own_message x)
false_report x (Some r) = message_report x r

unfoldable pub validation_with : Reach → ItemData → Trees → ItemReportData
validation_with r x trees = final_report (do
  outcome ← r trees.tree
  Ok (judged_report (false_report x) (judgement (option_map r trees.message_tree) outcome)))

abbrev pub with_texts : Reach → ItemData → Result Trees Unread → ItemReportData
with_texts r x (Ok trees) = validation_with r x trees
with_texts r x (Err u) = unread_report (unread_in x.expression u)

unfoldable pub validation_report : Reach → ItemData → ItemReportData
validation_report r x = with_texts r x (trees_of tree_of x.expression x.message_expression)

-- ---- audit annotations

abbrev pub text_or_nothing : List ℕ → ItemReportData
text_or_nothing [] = nothing
text_or_nothing (c ∷ cs) = says (c ∷ cs)

abbrev pub is_null : Kind → Bool
is_null Null = true
is_null _ = false

abbrev pub text_report : Option (List ℕ) → Kind → ItemReportData
text_report (Some s) k = text_or_nothing s
text_report None k =
    if is_null k then nothing
    else not_compiled (codes "expression returned neither a string nor null: " ++ kind_name k)

-- a string that isn't empty is the annotation's text; an empty one or null leaves the annotation
-- out
abbrev pub annotation_value : Data → ItemReportData
annotation_value v = text_report (text_in v) (kind_of v)

abbrev pub annotation_outcome : Outcome → ItemReportData
annotation_outcome (Ok v) = annotation_value v
annotation_outcome (Err f) = fault_report f

unfoldable pub annotation_report : Reach → ItemData → ItemReportData
annotation_report r x = final_report (do
  outcome ← evaluation r x.expression
  Ok (annotation_outcome outcome))

-- ---- whole policies

abbrev pub report_as : Subject → Reach → ItemData → ItemReportData
report_as Condition r x = condition_report r x
report_as Validation r x = validation_report r x
report_as Annotation r x = annotation_report r x

-- the labelled report of an entry of such a list
unfoldable pub result_as : Subject → Reach → ItemData → Labelled
result_as subject r x = with_report x.label (report_as subject r x)

unfoldable pub results_as : Subject → Reach → List ItemData → List Labelled
results_as subject r xs = map (result_as subject r) xs

-- the verdict of a policy that its match conditions decide
abbrev pub verdict_of_conditions : List Labelled → PolicyDecision → VerdictData
verdict_of_conditions conditions d = record {
  decision = d;
  conditions = conditions;
  variables = [];
  validations = [];
  annotations = [];
}

-- the verdict of a policy that its match conditions let through, evaluated with its variables
unfoldable pub verdict_in : Reach → List Labelled → PolicyData → List Labelled → VerdictData
verdict_in r missing p conditions =
    let validations = results_as Validation r p.validations in
    let annotations = results_as Annotation r p.annotations in
    record {
      decision = decision_of p.ignores validations annotations;
      conditions = conditions;
      variables = missing;
      validations = validations;
      annotations = annotations;
    }

abbrev pub verdict_after : Book → Variables → PolicyData → List Labelled → Option PolicyDecision → VerdictData
verdict_after b v p conditions (Some d) = verdict_of_conditions conditions d
verdict_after b v p conditions None =
    let s = variables_after b (scope_for v p.variables) p.variables in
    verdict_in (outcome_or_reason b s) s.missing p conditions

-- the verdict of a policy that an API server doesn't refuse when it is made
unfoldable pub evaluated_verdict : Book → Variables → PolicyData → VerdictData
evaluated_verdict b v p =
    let conditions =
    results_as Condition (outcome_or_reason b (first_scope (without_namespace v))) p.conditions in
    verdict_after b v p conditions (after_conditions p.ignores conditions)

-- the verdict of a policy
unfoldable pub policy_verdict : Book → Variables → PolicyData → VerdictData
policy_verdict b v p = if is_refused (refusals_of p) then refusals_of p else evaluated_verdict b v p

-- the verdict of the policy in a document, or the document's first fault
unfoldable pub verdict_of : Book → Variables → Json → Result VerdictData FaultData
verdict_of b v d = policy_of d >>= (λ p. Ok (policy_verdict b v p))

-- ---- views of the code's values

abbrev pub verdict_seen : Result PolicyVerdict PolicyFault → Result VerdictData FaultData
verdict_seen (Ok v) = Ok (verdict_view v)
verdict_seen (Err f) = Err (fault_view f)

-- it is the verdict under some book
abbrev pub IsVerdictOf : Variables → Json → Result PolicyVerdict PolicyFault → Type 0
IsVerdictOf v d r = (b : Book) × IsBook b × (verdict_seen r ≡ verdict_of b v d)
