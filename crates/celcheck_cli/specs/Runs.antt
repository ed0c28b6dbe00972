-- Trusted by the clauses of celcheck.
-- The meaning of a run of `celcheck check`: the files that it names, read in order, and the answer
-- for their contents.
use Rattle.celcheck_cli.specs.declared.status.Stop.{Stop}
use Rattle.celcheck_cli.specs.Words.{Paths}
use Rattle.kube_cel.specs.Answers.{IsReportOf}
use Rattle.kube_cel.specs.Raw.{raw_accessors}
use Rattle.kube_cel.specs.ValidationErrors.{ValidationErrors}
use Rattle.kube_cel.specs.Starts.{defaulted_start}
use Rattle.serde_json.specs.Data.{Data}
use Rattle.serde_json.specs.Read.{read as read_text}
use Rattle.std.specs.declared.io.Error.{Error}
use Rattle.std.specs.Global.{Global}
use Rattle.std.specs.Prelude.{◌≡◌, ℕ, List, Option, Some, None, Result, Ok, Err, String, string_bytes}

-- the result of a read: a text, or none
abbrev pub text_seen : Result (String Global) Error → Option (List ℕ)
text_seen (Ok text) = Some (string_bytes text)
text_seen (Err e) = None

module _ {S : Type 0} (reads : S → List ℕ → Option (List ℕ) → S → Type 0) where
  -- the text of the file at this path is this JSON value
  pub record IsRead (before : S) (path : List ℕ) (value : Data) (after : S) : Type 0 where
    pub text : List ℕ
    pub given : reads before path (Some text) after
    pub means : read_text text ≡ Some value

  -- the same for a file that may not be named, in which case nothing is read
  abbrev pub IsReadWhereNamed : S → Option (List ℕ) → Option Data → S → Type 0
  IsReadWhereNamed before None None after = before ≡ after
  IsReadWhereNamed before None (Some value) after = ⊥
  IsReadWhereNamed before (Some path) None after = ⊥
  IsReadWhereNamed before (Some path) (Some value) after = IsRead before path value after

  -- the named files were read in order, nothing else was, and this is the answer for their contents
  pub record IsAnswered (before : S) (named : Paths) (after : S)
      (answered : Result (Unit {0}) ValidationErrors) : Type 0 where
    pub schema : Data
    pub object : Data
    pub old : Option Data
    pub with_schema : S
    pub with_object : S
    pub schema_read : IsRead before named.schema schema with_schema
    pub object_read : IsRead with_schema named.object object with_object
    pub old_read : IsReadWhereNamed with_object named.old old after
    pub reported : IsReportOf raw_accessors (defaulted_start schema object old None) answered

-- ---- for private clauses

-- errors were found, and P holds of them
abbrev pub IfErrors : Result (Result (Unit {0}) ValidationErrors) Stop → (ValidationErrors → Type 0) → Type 0
IfErrors (Ok (Ok u)) P = ⊥
IfErrors (Ok (Err errors)) P = P errors
IfErrors (Err stop) P = ⊥
