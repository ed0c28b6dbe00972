-- Trusted by the clauses of policies.
-- The names and inputs that a policy's expressions see (Kubernetes documentation, "Validating
-- Admission Policy", variables of expressions and variable composition), the outcome of an
-- expression there, and what doesn't compile (the same page, type checking: a policy with a syntax
-- error is rejected; CEL language definition, "Gradual Type Checking": a reference that isn't
-- declared is refused before any evaluation).
use Rattle.cel.specs.Program.{program_term}
use Rattle.cel.specs.declared.program.Program.{Program}
use Rattle.cel.specs.Book.{Book}
use Rattle.cel.specs.Bindings.{Bindings, binding, bindings_of}
use Rattle.cel.specs.Library.{Library}
use Rattle.cel.specs.Meaning.{meaning}
use Rattle.cel.specs.Members.{has_member, put_in}
use Rattle.cel.specs.Outcome.{Outcome, and_then, outcome_view}
use Rattle.cel_syntax.specs.Reading.{tree_of}
use Rattle.cel_syntax.specs.Term.{Term}
use Rattle.cel_value.specs.Data.{Data, map_of, no_entries, text, text_key}
use Rattle.cel_value.specs.Faults.{Fault, undeclared}
use Rattle.cel_value.specs.Parts.{bool_in}
use Rattle.cel_value.specs.Texts.{fault_text}
use Rattle.cel_value.specs.View.{view}
use Rattle.cel_value.specs.declared.error.ExecutionError.{ExecutionError}
use Rattle.cel_value.specs.declared.value.Value.{Value}
use Rattle.kube_functions.specs.Kube.{all_library}
use Rattle.kube_manifests_documents.specs.Faults.{◌>>=◌}
use Rattle.kube_manifests_documents.specs.Inputs.{Variables}
use Rattle.kube_manifests_policies.specs.Bound.{policy_bindings}
use Rattle.kube_manifests_limits.specs.Limits.{is_limit}
use Rattle.kube_manifests_names.specs.Inputs.{absent_in, first_missing}
use Rattle.kube_manifests_documents.specs.Policies.{ItemData}
use Rattle.kube_manifests_names.specs.Names.{doubles_text}
use Rattle.kube_manifests_names.specs.Uses.{asks}
use Rattle.kube_manifests_policies.specs.Verdicts.{Labelled, ItemReportData, erred, not_compiled, not_given, result_view, report_view, with_report}
use Rattle.kube_manifests_names.specs.declared.inputs.Input.{Input}
use Rattle.kube_manifests_policies.specs.declared.scope.Scope.{Scope}
use Rattle.kube_manifests_policies.specs.declared.verdict.ItemReport.{ItemReport}
use Rattle.std.specs.Prelude.{◌≡◌, ℕ, List, [], ◌∷◌, ◌++◌, map, Bool, true, false, not, if◌then◌else◌, Option, Some, None, Result, Ok, Err, codes}
use Rattle.std.specs.Str.{bytes_eq}

pub record ScopeData : Type 0 where
  pub bindings : Bindings
  -- the inputs that aren't given
  pub absent : List Input
  -- the map of the variables that have a value
  pub values : Data
  -- the variables that have no value, in order
  pub missing : List Labelled

-- the scope before any variable is evaluated
abbrev pub first_scope : Variables → ScopeData
first_scope v = record {
  bindings = policy_bindings v;
  absent = absent_in v;
  values = map_of no_entries;
  missing = [];
}

-- `variables` is bound to the variables evaluated so far that have a value
abbrev pub with_values : ScopeData → Data → ScopeData
with_values s m = record s { bindings = (codes "variables", m) ∷ s.bindings; values = m }

-- `variables` isn't bound if the policy has no variables
abbrev pub with_no_values : List ItemData → Bindings → Bindings
with_no_values [] e = e
with_no_values (x ∷ xs) e = (codes "variables", map_of no_entries) ∷ e

abbrev pub scope_for : Variables → List ItemData → ScopeData
scope_for v xs = record (first_scope v) { bindings = with_no_values xs (policy_bindings v) }

-- ---- why an expression isn't evaluated

abbrev pub is_not_judged : ItemReportData → Bool
is_not_judged (not_given i) = true
is_not_judged (not_compiled m) = true
is_not_judged _ = false

-- If a variable reads an input that isn't given, or doesn't compile, an expression that reads the
-- variable isn't evaluated either. If a variable fails, selecting it is an error, which `&&`, `||`
-- and `?:` may absorb like any other; an expression that reads it in another way isn't evaluated
-- and has that error.
abbrev pub stops : Term → Labelled → Bool
stops t r = asks (codes "variables") r.label (is_not_judged r.reported) t

abbrev pub first_stop : List Labelled → Term → Option ItemReportData
first_stop [] t = None
first_stop (r ∷ rs) t = if stops t r then Some r.reported else first_stop rs t

abbrev pub stopped_by : Option Input → Option ItemReportData → Option ItemReportData
stopped_by (Some i) o = Some (not_given i)
stopped_by None o = o

abbrev pub why_not : ScopeData → Term → Option ItemReportData
why_not s t = stopped_by (first_missing s.absent t) (first_stop s.missing t)

-- ---- the outcome of an expression

-- the functions that the expressions of a policy may call: all of Kubernetes
abbrev pub policy_library : Library
policy_library = all_library

-- the meaning of an expression under these bindings
unfoldable pub outcome_in : Book → Bindings → Term → Outcome
outcome_in b e t = meaning policy_library b t e

abbrev pub outcome_unless : Option ItemReportData → Outcome → Result Outcome ItemReportData
outcome_unless (Some reported) o = Err reported
outcome_unless None o = Ok o

-- the outcome of an expression, or the reason why it isn't evaluated
unfoldable pub outcome_or_reason : Book → ScopeData → Term → Result Outcome ItemReportData
outcome_or_reason b s t = outcome_unless (why_not s t) (outcome_in b s.bindings t)

abbrev pub tree_or : ItemReportData → Option Term → Result Term ItemReportData
tree_or reported (Some t) = Ok t
tree_or reported None = Err reported

abbrev pub unread_text : List ℕ → List ℕ
unread_text s = codes "failed to compile VAP expression \"" ++ (s ++ codes "\": invalid CEL expression")

-- a text that derives no tree doesn't compile
abbrev pub unread_report : List ℕ → ItemReportData
unread_report s = not_compiled (unread_text s)

-- the tree of a text
abbrev pub tree_report : List ℕ → Result Term ItemReportData
tree_report s = tree_or (unread_report s) (tree_of s)

-- the outcome of an expression, or the reason why it isn't evaluated; and how it is found
abbrev pub Reached : Type 0
Reached = Result Outcome ItemReportData

abbrev pub Reach : Type 0
Reach = Term → Reached

abbrev pub evaluation : Reach → List ℕ → Reached
evaluation r s = tree_report s >>= r

abbrev pub is_double : Fault → Bool
is_double (undeclared name) = bytes_eq name (codes "double")
is_double _ = false

abbrev pub fault_message : Fault → List ℕ
fault_message f = if is_double f then doubles_text else codes "evaluation error: " ++ fault_text f

-- An expression whose evaluation ends at a limit can't be evaluated here. Any other fault is an error of the evaluation.
abbrev pub fault_report : Fault → ItemReportData
fault_report f = if is_limit f then not_compiled (fault_message f) else erred (fault_message f)

-- ---- variables

abbrev pub without_value : ScopeData → List ℕ → ItemReportData → ScopeData
without_value s name reported = record s { missing = s.missing ++ with_report name reported ∷ [] }

abbrev pub with_stored : ScopeData → List ℕ → Outcome → ScopeData
with_stored s name (Ok m) = with_values s m
with_stored s name (Err f) = without_value s name (fault_report f)

abbrev pub with_variable : ScopeData → List ℕ → Result Outcome ItemReportData → ScopeData
with_variable s name (Ok o) = with_stored s name (and_then o (λ v. put_in s.values (text name) v))
with_variable s name (Err reported) = without_value s name reported

-- one more variable, which sees the earlier ones
unfoldable pub variable_step : Book → ScopeData → ItemData → ScopeData
variable_step b s x = with_variable s x.label (evaluation (outcome_or_reason b s) x.expression)

abbrev pub variables_after : Book → ScopeData → List ItemData → ScopeData
variables_after b s [] = s
variables_after b s (x ∷ xs) = variables_after b (variable_step b s x) xs

-- ---- views of the code's values

abbrev pub scope_view : Scope → ScopeData
scope_view s = record {
  bindings = bindings_of s.context;
  absent = s.absent.items;
  values = view s.values;
  missing = map result_view s.missing.items;
}

-- the same names are bound to the same values, and the rest is equal
pub record Alike (a b : ScopeData) : Type 0 where
  pub bindings : (x : List ℕ) → binding x a.bindings ≡ binding x b.bindings
  pub absent : a.absent ≡ b.absent
  pub values : a.values ≡ b.values
  pub missing : a.missing ≡ b.missing

abbrev pub outcome_seen : Result (Result Value ExecutionError) ItemReport → Result Outcome ItemReportData
outcome_seen (Ok r) = Ok (outcome_view r)
outcome_seen (Err reported) = Err (report_view reported)

abbrev pub tree_seen : Result Program ItemReport → Result Term ItemReportData
tree_seen (Ok p) = Ok (program_term p)
tree_seen (Err reported) = Err (report_view reported)

-- ---- for private clauses

abbrev pub is_no : Option Bool → Bool
is_no (Some there) = not there
is_no None = false

abbrev pub is_absent : Outcome → Bool
is_absent (Ok v) = is_no (bool_in v)
is_absent (Err f) = false

-- a map of variables has none of this name
abbrev pub is_new : Data → List ℕ → Bool
is_new m name = is_absent (has_member (text_key name) m)
