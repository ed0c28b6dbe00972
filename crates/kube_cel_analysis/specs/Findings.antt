-- Trusted by the clauses of analysis and linter.
-- The findings of the rules of one node: why a rule doesn't compile,
-- which unknown functions it calls, and the warnings of its analysis.
use Rattle.std.specs.Prelude.{ℕ, List, [], ◌∷◌, ◌++◌, map, Bool, true, false, Result, Ok, Err, if◌then◌else◌, codes, string_bytes}
use Rattle.std.specs.List.{flat_map}
use Rattle.cel.specs.Form.{Form}
use Rattle.cel.specs.Form.TheVariants.{Unknown, Wrong, Known}
use Rattle.cel_syntax.specs.CallNames.{is_called}
use Rattle.cel_syntax.specs.Names.{AreNames}
use Rattle.cel_syntax.specs.FreeNames.{is_free}
use Rattle.cel_syntax.specs.Term.{Term}
use Rattle.kube_cel_analysis.specs.Scopes.{names_remarks}
use Rattle.kube_cel_analysis.specs.Warnings.{Warning, warning}
use Rattle.kube_cel_analysis.specs.declared.scope.ScopeContext.TheVariants.{CrdValidation}
use Rattle.kube_cel_analysis.specs.declared.warning.WarningKind.{WarningKind}
use Rattle.kube_cel_analysis.specs.declared.warning.WarningKind.TheVariants.{WrongScope, CostExceeded, MissingBounds}
use Rattle.kube_cel_analysis.specs.Estimates.{estimates}
use Rattle.kube_cel_analysis.specs.declared.finding.LintFinding.{LintFinding}
use Rattle.kube_cel_analysis.specs.declared.finding.LintKind.{LintKind}
use Rattle.kube_cel_analysis.specs.declared.finding.LintKind.TheVariants.{Compile, Function, Scope, Cost, Bounds, Depth}
use Rattle.kube_functions.specs.Kube.{all_library}
use Rattle.kube_schema.specs.Compilation.{Compiled, Malformed, unread, unread_message, invalid, past_depth, error_text}
use Rattle.kube_schema.specs.Tree.{Node}

pub record Finding : Type 0 where
  pub pointer : List ℕ
  pub rule : List ℕ
  pub kind : LintKind
  pub message : List ℕ

abbrev pub finding_view : LintFinding → Finding
finding_view f = record {
  pointer = string_bytes f.pointer;
  rule = string_bytes f.rule.value;
  kind = f.kind;
  message = string_bytes f.message;
}

-- ---- a rule that doesn't compile

abbrev pub kind_of_error : Malformed → LintKind
kind_of_error (unread rule) = Compile
kind_of_error (unread_message rule m) = Compile
kind_of_error (invalid f) = Compile
kind_of_error (past_depth n) = Depth

-- the text of the rule; empty if there is none
abbrev pub rule_of_error : Malformed → List ℕ
rule_of_error (unread rule) = rule
rule_of_error (unread_message rule m) = rule
rule_of_error (invalid f) = []
rule_of_error (past_depth n) = []

abbrev pub error_finding : List ℕ → Malformed → Finding
error_finding p m = record {
  pointer = p;
  rule = rule_of_error m;
  kind = kind_of_error m;
  message = error_text m;
}

-- ---- the functions that a rule calls

abbrev pub is_unknown_form : Form → Bool
is_unknown_form Unknown = true
is_unknown_form Wrong = false
is_unknown_form Known = false

-- no function of CEL or Kubernetes has this name
unfoldable pub is_unknown : List ℕ → Bool
is_unknown name = is_unknown_form (all_library.form_of name false 0)

abbrev pub unknown_finding : List ℕ → List ℕ → List ℕ → Finding
unknown_finding p rule name = record {
  pointer = p;
  rule = rule;
  kind = Function;
  message = codes "function '" ++ (name ++ codes "' is unknown");
}

abbrev pub name_findings : List ℕ → List ℕ → List ℕ → List Finding
name_findings p rule name = if is_unknown name then unknown_finding p rule name ∷ [] else []

-- the findings of these names, in order
abbrev pub names_findings : List ℕ → List ℕ → List (List ℕ) → List Finding
names_findings p rule [] = []
names_findings p rule (n ∷ ns) = name_findings p rule n ++ names_findings p rule ns

-- ---- the warnings of an analysis

abbrev pub kind_of_warning : WarningKind → LintKind
kind_of_warning WrongScope = Scope
kind_of_warning CostExceeded = Cost
kind_of_warning MissingBounds = Bounds

abbrev pub warning_finding : List ℕ → Warning → Finding
warning_finding p w = record {
  pointer = p;
  rule = w.rule;
  kind = kind_of_warning w.kind;
  message = w.message;
}

-- ---- all rules of a node

-- for each tree, the names of its calls and its free names,
-- each once and in order: each tree has exactly one such list
pub record Naming : Type 0 where
  pub called : Term → List (List ℕ)
  pub free : Term → List (List ℕ)
  pub called_are : (t : Term) → AreNames (called t) (λ x. is_called x t)
  pub free_are : (t : Term) → AreNames (free t) (λ x. is_free x t)

-- all warnings of a rule, with this node as the root of a schema
abbrev pub warnings_at : Naming → List ℕ → Node → Term → List Warning
warnings_at names rule n t =
    map (warning rule) (names_remarks CrdValidation (names.free t) ++ estimates n t)

abbrev pub compiled_findings : Naming → List ℕ → Node → Compiled → List Finding
compiled_findings names p n c =
    names_findings p c.fields.rule (names.called c.tree)
    ++ map (warning_finding p) (warnings_at names c.fields.rule n c.tree)

abbrev pub rule_findings : Naming → List ℕ → Node → Result Compiled Malformed → List Finding
rule_findings names p n (Ok c) = compiled_findings names p n c
rule_findings names p n (Err m) = error_finding p m ∷ []

-- the findings of rules, in order
abbrev pub rules_findings : Naming → List ℕ → Node → List (Result Compiled Malformed) → List Finding
rules_findings names p n rs = flat_map (rule_findings names p n) rs
