-- Trusted by the clauses of manifests.
-- The findings that a review may report for a document, each with the condition under which it is
-- reported. Source: this project's own definition.
use Rattle.std.specs.Prelude.{◌≡◌, ℕ, List, [], ◌∷◌, ◌++◌, map, Bool, true, false, ◌&&◌, None, is_none, is_err, if◌then◌else◌, codes, string_bytes}
use Rattle.std.specs.List.{flat_map}
use Rattle.cel.specs.Book.{Book, pattern_in}
use Rattle.cel.specs.Form.{Form}
use Rattle.cel.specs.Form.TheVariants.{Unknown, Wrong, Known}
use Rattle.cel_value.specs.Data.{text}
use Rattle.kube_cel_analysis.specs.declared.finding.LintKind.{LintKind}
use Rattle.kube_cel_analysis.specs.declared.finding.LintKind.TheVariants as lint
use Rattle.kube_functions.specs.Kube.{all_library}
use Rattle.kube_manifests_review.specs.declared.finding.ReviewFinding.{ReviewFinding}
use Rattle.kube_manifests_review.specs.declared.finding.ReviewKind.{ReviewKind}
use Rattle.kube_manifests_review.specs.declared.finding.ReviewKind.TheVariants as kind
use Rattle.kube_manifests_review.specs.declared.candidate.Condition.{Condition}
use Rattle.kube_manifests_review.specs.declared.candidate.Condition.TheVariants as condition
use Rattle.kube_manifests_review.specs.declared.candidate.Candidate as declared

-- something found at one pointer
pub record Finding : Type 0 where
  -- the JSON Pointer (RFC 6901) into the document
  pub pointer : List ℕ
  -- the source of the rule, empty if the finding isn't about a rule
  pub rule : List ℕ
  pub kind : ReviewKind
  pub message : List ℕ

abbrev pub finding_view : ReviewFinding → Finding
finding_view f = record {
  pointer = string_bytes f.pointer;
  rule = string_bytes f.rule.value;
  kind = f.kind;
  message = string_bytes f.message;
}

abbrev pub lint_text : LintKind → List ℕ
lint_text lint.Compile = codes "compile"
lint_text lint.Function = codes "function"
lint_text lint.Scope = codes "scope"
lint_text lint.Cost = codes "cost"
lint_text lint.Bounds = codes "bounds"
lint_text lint.Depth = codes "depth"

-- the word for a kind
abbrev pub kind_text : ReviewKind → List ℕ
kind_text (kind.Lint k) = lint_text k
kind_text kind.Document = codes "document"
kind_text kind.Call = codes "call"
kind_text kind.Pattern = codes "pattern"
kind_text kind.Literal = codes "literal"
kind_text kind.Unsupported = codes "unsupported"
kind_text kind.Message = codes "message"
kind_text kind.Keyword = codes "keyword"
kind_text kind.Rules = codes "rules"
kind_text kind.NoRules = codes "no-rules"

-- the condition under which a finding is reported
pub data When : Type 0 where
  always : When
  -- if this pattern is refused
  refused : List ℕ → When
  -- if calling this function with just this string gives an error
  fails : List ℕ → List ℕ → When

-- a finding, with the condition under which it is reported
pub record Candidate : Type 0 where
  pub finding : Finding
  pub when : When

-- a finding that is always reported and isn't about a rule
abbrev pub unconditional : List ℕ → ReviewKind → List ℕ → Candidate
unconditional p k m = record {
  finding = record { pointer = p; rule = []; kind = k; message = m };
  when = always;
}

abbrev pub when_view : Condition → When
when_view condition.Always = always
when_view (condition.Refused p) = refused (string_bytes p)
when_view (condition.Fails name s) = fails (string_bytes name) (string_bytes s)

abbrev pub candidate_view : declared.Candidate → Candidate
candidate_view d = record { finding = finding_view d.finding; when = when_view d.condition }

-- the candidates afterwards are those before, followed by these
abbrev pub AddsCandidates : List declared.Candidate → List declared.Candidate → List Candidate → Type 0
AddsCandidates before after ds = map candidate_view after ≡ map candidate_view before ++ ds

-- ---- the findings under a book of patterns

abbrev pub is_known : Form → Bool
is_known Unknown = false
is_known Wrong = false
is_known Known = true

-- whether a function takes a single argument and fails on this string
unfoldable pub fails_at : List ℕ → List ℕ → Book → Bool
fails_at name s book =
    is_known (all_library.form_of name false 1) && is_err (all_library.answer_of name None (text s ∷ []) book)

unfoldable pub is_refused : List ℕ → Book → Bool
is_refused p book = is_none (pattern_in book p)

abbrev pub is_due : Book → When → Bool
is_due book always = true
is_due book (refused p) = is_refused p book
is_due book (fails name s) = fails_at name s book

abbrev pub due_finding : Book → Candidate → List Finding
due_finding book d = if is_due book d.when then d.finding ∷ [] else []

-- the findings whose condition holds, in their order
unfoldable pub due : List Candidate → Book → List Finding
due ds book = flat_map (due_finding book) ds
