-- Trusted by the clauses of celcheck.
-- The report of `lint`, and its exit status.
use Rattle.celcheck_cli.specs.Runs.{IsRead}
use Rattle.kube_cel.specs.LintFinding.{LintFinding}
use Rattle.kube_cel.specs.LintKind.{LintKind}
use Rattle.kube_cel.specs.LintKind.TheVariants.{Compile, Function, Scope, Cost, Bounds, Depth}
use Rattle.kube_cel.specs.Findings.{Finding, Naming, finding_view}
use Rattle.kube_cel.specs.Lint.{findings}
use Rattle.kube_schema.specs.View.{view_of}
use Rattle.serde_json.specs.Data.{Data}
use Rattle.std.specs.List.{flat_map}
use Rattle.std.specs.Prelude.{◌≡◌, ℕ, List, [], ◌∷◌, ◌++◌, map, Option, codes}

abbrev pub kind_text : LintKind → List ℕ
kind_text Compile = codes "compile"
kind_text Function = codes "function"
kind_text Scope = codes "scope"
kind_text Cost = codes "cost"
kind_text Bounds = codes "bounds"
kind_text Depth = codes "depth"

-- the line of a finding, including its line feed
abbrev pub finding_line : Finding → List ℕ
finding_line f =
    codes "#" ++ (f.pointer ++ (codes ": " ++ (kind_text f.kind ++ (codes ": " ++ (f.message ++ 10 ∷ [])))))

-- 0 if there are no findings, else 1
abbrev pub findings_status : List Finding → ℕ
findings_status [] = 0
findings_status (f ∷ fs) = 1

module _ {S : Type 0} (reads : S → List ℕ → Option (List ℕ) → S → Type 0) where
  -- the schema was read, nothing else was, and these are all findings about its rules
  pub record AreFindings (before : S) (path : List ℕ) (after : S) (found : List LintFinding) : Type 0 where
    pub schema : Data
    pub given : IsRead reads before path schema after
    pub all : (names : Naming) → map finding_view found ≡ findings names [] (view_of 65 schema)

  -- the same, the exit status is that of the findings, and a line for each was written
  pub record IsLinted (before : S) (path : List ℕ) (after : S)
      (status : ℕ) (Writes : List ℕ → Type 0) : Type 0 where
    pub found : List LintFinding
    pub are : AreFindings before path after found
    pub status_is : status ≡ findings_status (map finding_view found)
    pub written : Writes (flat_map finding_line (map finding_view found))
