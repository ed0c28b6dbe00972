-- Trusted by the clauses of analysis and linter.
-- What is said of a rule, and the views of warnings.
use Rattle.std.specs.Prelude.{ℕ, List, string_bytes}
use Rattle.kube_cel_analysis.specs.declared.warning.AnalysisWarning.{AnalysisWarning}
use Rattle.kube_cel_analysis.specs.declared.warning.Remark as declared
use Rattle.kube_cel_analysis.specs.declared.warning.WarningKind.{WarningKind}

-- what is wrong with a rule
pub record Remark : Type 0 where
  pub message : List ℕ
  pub kind : WarningKind

-- the same with the text of the rule
pub record Warning : Type 0 where
  pub rule : List ℕ
  pub message : List ℕ
  pub kind : WarningKind

abbrev pub warning : List ℕ → Remark → Warning
warning rule r = record { rule = rule; message = r.message; kind = r.kind }

abbrev pub remark_view : declared.Remark → Remark
remark_view r = record { message = string_bytes r.message; kind = r.kind }

abbrev pub warning_view : AnalysisWarning → Warning
warning_view w = record { rule = string_bytes w.rule; message = string_bytes w.message; kind = w.kind }
