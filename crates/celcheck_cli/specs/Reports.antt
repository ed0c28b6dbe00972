-- Trusted by the clauses of celcheck.
-- The reports of `eval` and `vap`, and their exit statuses.
use Rattle.cel.specs.Book.{Book, IsBook}
use Rattle.cel.specs.Meaning.{meaning}
use Rattle.cel.specs.Outcome.{Outcome}
use Rattle.cel_syntax.specs.Reading.{tree_of}
use Rattle.cel_value.specs.Faults.{fault_view}
use Rattle.cel_value.specs.Kinds.{kind_name}
use Rattle.cel_value.specs.Texts.{printed_text, fault_text}
use Rattle.cel_value.specs.View.{kind_of}
use Rattle.cel_value.specs.declared.kind.Kind.{Kind}
use Rattle.celcheck_cli.specs.declared.eval.Found.{Found}
use Rattle.celcheck_cli.specs.declared.eval.Found.TheVariants as found
use Rattle.celcheck_cli.specs.declared.status.Stop.{Stop}
use Rattle.celcheck_cli.specs.declared.status.Stop.TheVariants as stop
use Rattle.celcheck_cli.specs.Policies.{validations_in}
use Rattle.celcheck_cli.specs.Runs.{IsRead}
use Rattle.kube_cel.specs.VapResult.{VapResult}
use Rattle.kube_cel.specs.Validations.{ExpressionData, ResultData, result_view}
use Rattle.kube_cel.specs.CallResults.{AreResultsOf}
use Rattle.kube_cel.specs.Variables.{Variables, no_variables}
use Rattle.kube_functions.specs.Kube.{all_library}
use Rattle.kube_types.specs.Refused.TheVariants.{Memory}
use Rattle.serde_json.specs.Data.{Data}
use Rattle.std.specs.declared.io.Error.{Error}
use Rattle.std.specs.List.{flat_map}
use Rattle.std.specs.Prelude.{◌≡◌, ℕ, List, [], ◌∷◌, ◌++◌, if◌then◌else◌, map, Option, Some, None, option_map, Result, Ok, Err, codes, string_bytes}

-- the exit status n if the results were written, else that of a failed write
abbrev pub status_after : ℕ → Result (Unit {0}) Error → ℕ
status_after n (Ok u) = n
status_after n (Err e) = 2

-- the command stops because of this path, unless there is no memory to report that
abbrev pub IsOfPath : List ℕ → Stop → Type 0
IsOfPath path (stop.Refused r) = r ≡ Memory
IsOfPath path (stop.Unreadable p) = string_bytes p ≡ path
IsOfPath path stop.BadPolicy = ⊥

-- ---- `eval`

-- the meaning of a text with all functions and no variables; none if it isn't an expression
abbrev pub evaluation : Book → List ℕ → Option Outcome
evaluation b text = option_map (λ t. meaning all_library b t []) (tree_of text)

-- the text that `%s` formats, or the kind of the whole value if `%s` can't format it
abbrev pub shown_line : Kind → Result (List ℕ) Kind → List ℕ
shown_line kind (Ok text) = text
shown_line kind (Err part) = codes "<" ++ (kind_name kind ++ codes ">")

abbrev pub outcome_line : Option Outcome → List ℕ
outcome_line None = codes "error: invalid CEL expression"
outcome_line (Some (Ok v)) = shown_line (kind_of v) (printed_text v)
outcome_line (Some (Err e)) = codes "error: " ++ fault_text e

abbrev pub outcome_status : Option Outcome → ℕ
outcome_status None = 1
outcome_status (Some (Ok v)) = 0
outcome_status (Some (Err e)) = 1

-- the exit status is that of the text's outcome under some book, and its line was written
pub record IsEvaluated (text : List ℕ) (status : ℕ) (Writes : List ℕ → Type 0) : Type 0 where
  pub book : Book
  pub is_book : IsBook book
  pub status_is : status ≡ outcome_status (evaluation book text)
  pub written : Writes (outcome_line (evaluation book text) ++ 10 ∷ [])

-- ---- `vap`

-- the line of a result, including its line feed
abbrev pub report_line : List ℕ → Option (List ℕ) → List ℕ
report_line expression None = codes "pass " ++ (expression ++ 10 ∷ [])
report_line expression (Some message) = codes "fail " ++ (expression ++ (codes ": " ++ (message ++ 10 ∷ [])))

abbrev pub result_line : ResultData → List ℕ
result_line r = report_line r.expression r.message

-- 0 if all passed, else 1
unfoldable pub results_status : List ResultData → ℕ
results_status [] = 0
results_status (r ∷ rs) = if r.passed then results_status rs else 1

-- only `object` is known
abbrev pub with_object : Data → Variables
with_object d = record no_variables { object = Some d }

module _ {S : Type 0} (reads : S → List ℕ → Option (List ℕ) → S → Type 0) where
  -- policy and object were read in order, nothing else was, and these are the results of the
  -- policy's validations
  pub record AreResults (before : S) (policy object : List ℕ)
      (after : S) (results : List VapResult) : Type 0 where
    pub policy_read : Data
    pub object_read : Data
    pub between : S
    pub first : IsRead reads before policy policy_read between
    pub second : IsRead reads between object object_read after
    pub validations : List ExpressionData
    pub shaped : validations_in policy_read ≡ Some validations
    pub judged : AreResultsOf (with_object object_read) validations results

  -- the same, the exit status is that of the results, and a line for each was written
  pub record IsReviewed (before : S) (policy object : List ℕ)
      (after : S) (status : ℕ) (Writes : List ℕ → Type 0) : Type 0 where
    pub results : List VapResult
    pub found : AreResults before policy object after results
    pub status_is : status ≡ results_status (map result_view results)
    pub written : Writes (flat_map result_line (map result_view results))

-- ---- for private clauses

abbrev pub found_status : Found → ℕ
found_status (found.Shown text) = 0
found_status (found.Textless kind) = 0
found_status (found.Fault fault) = 1
found_status (found.Unread errors) = 1

abbrev pub found_line : Found → List ℕ
found_line (found.Shown text) = string_bytes text
found_line (found.Textless kind) = codes "<" ++ (kind_name kind ++ codes ">")
found_line (found.Fault fault) = codes "error: " ++ fault_text (fault_view fault)
found_line (found.Unread errors) = codes "error: invalid CEL expression"

-- this is the report of the outcome
abbrev pub IsReportedAs : Option Outcome → Found → Type 0
IsReportedAs outcome f = (found_status f ≡ outcome_status outcome) × (found_line f ≡ outcome_line outcome)

-- this is the report of the text's outcome under some book
pub record IsFound (text : List ℕ) (f : Found) : Type 0 where
  pub book : Book
  pub is_book : IsBook book
  pub reported : IsReportedAs (evaluation book text) f
