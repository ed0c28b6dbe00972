-- Trusted by the clauses of policies.
-- What an API server refuses of a policy's expressions when the policy is made, as far as their texts and names go
-- (Kubernetes documentation, "Validating Admission Policy", type checking and variable composition).
use Rattle.kube_manifests_documents.specs.Policies.{ItemData, PolicyData}
use Rattle.kube_manifests_names.specs.Names.{NamesData, RefusalData, refusal_of, refusal_text}
use Rattle.kube_manifests_policies.specs.Scopes.{tree_report}
use Rattle.kube_manifests_policies.specs.Verdicts.{Labelled, ItemReportData, VerdictData, not_compiled, with_report}
use Rattle.kube_manifests_policies.specs.declared.verdict.PolicyDecision.TheVariants.{NotJudged}
use Rattle.cel_syntax.specs.Term.{Term}
use Rattle.std.specs.List.{flat_map, list_any}
use Rattle.std.specs.Prelude.{ℕ, List, [], ◌∷◌, ◌++◌, Bool, true, false, ◌&&◌, not, Option, Some, None, option_map, Result, Ok, Err}
use Rattle.std.specs.Str.{bytes_eq}

abbrev pub refusal_report : RefusalData → ItemReportData
refusal_report r = not_compiled (refusal_text r)

abbrev pub tree_refusal : NamesData → Result Term ItemReportData → Option ItemReportData
tree_refusal n (Ok t) = option_map refusal_report (refusal_of n t)
tree_refusal n (Err reported) = Some reported

-- why the text of an expression is refused, if it is
unfoldable pub text_refusal : NamesData → List ℕ → Option ItemReportData
text_refusal n s = tree_refusal n (tree_report s)

abbrev pub refusal_where : NamesData → Option (List ℕ) → Option ItemReportData
refusal_where n None = None
refusal_where n (Some s) = text_refusal n s

abbrev pub or_else : Option ItemReportData → Option ItemReportData → Option ItemReportData
or_else (Some reported) o = Some reported
or_else None o = o

-- a messageExpression sees what its expression sees, but for `authorizer`
abbrev pub message_names : NamesData → NamesData
message_names n = record n { authorizer = false }

-- the refusal of an entry's expression, or else that of its messageExpression
abbrev pub item_refusal : NamesData → ItemData → Option ItemReportData
item_refusal n x = or_else (text_refusal n x.expression) (refusal_where (message_names n) x.message_expression)

abbrev pub labelled_where : List ℕ → Option ItemReportData → List Labelled
labelled_where label None = []
labelled_where label (Some reported) = with_report label reported ∷ []

abbrev pub refused_item : NamesData → ItemData → List Labelled
refused_item n x = labelled_where x.label (item_refusal n x)

-- those of these entries that are refused
abbrev pub refused_items : NamesData → List ItemData → List Labelled
refused_items n xs = flat_map (refused_item n) xs

-- whether one of these entries has this name
abbrev pub is_label : List ItemData → List ℕ → Bool
is_label xs name = list_any (λ x. bytes_eq name x.label) xs

-- what is seen where these variables are
abbrev pub names_with : Bool → List ItemData → NamesData
names_with params xs = record { params = params; authorizer = true; variables = Some (is_label xs) }

-- those of these variables that are refused; each sees those before it
abbrev pub refused_variables : Bool → List ItemData → List ItemData → List Labelled
refused_variables params before [] = []
refused_variables params before (x ∷ xs) =
    refused_item (names_with params before) x ++ refused_variables params (before ++ x ∷ []) xs

-- match conditions see no variable
abbrev pub condition_names : PolicyData → NamesData
condition_names p = record { params = p.has_params; authorizer = true; variables = None }

-- validations and audit annotations see all
abbrev pub all_names : PolicyData → NamesData
all_names p = names_with p.has_params p.variables

-- the verdict of a policy with refused expressions: these alone, and nothing is evaluated
unfoldable pub refusals_of : PolicyData → VerdictData
refusals_of p = record {
  decision = NotJudged;
  conditions = refused_items (condition_names p) p.conditions;
  variables = refused_variables p.has_params [] p.variables;
  validations = refused_items (all_names p) p.validations;
  annotations = refused_items (all_names p) p.annotations;
}

abbrev pub has_none : List Labelled → Bool
has_none [] = true
has_none (r ∷ rs) = false

-- whether any expression is refused
abbrev pub is_refused : VerdictData → Bool
is_refused v = not (has_none v.conditions && (has_none v.variables && (has_none v.validations && has_none v.annotations)))
