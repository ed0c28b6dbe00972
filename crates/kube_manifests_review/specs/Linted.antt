-- Trusted by the clauses of manifests.
-- The candidates for the linter's findings. What the linter says of functions that this project lacks,
-- and of names in a rule that calls one, is no mistake of the definition and is left out: `Calls.antt`
-- says what is reported in its place. Source: this project's own definition.
use Rattle.std.specs.Prelude.{ℕ, List, [], ◌∷◌, ◌++◌, ◌||◌, Bool, false, Option, Some, None, String, if◌then◌else◌, string_bytes}
use Rattle.std.specs.List.{list_any}
use Rattle.std.specs.Option.{option_map_or}
use Rattle.std.specs.Str.{bytes_eq}
use Rattle.std.specs.declared.alloc.Global.{Global}
use Rattle.std.specs.declared.rc.Rc.{Rc}
use Rattle.kube_cel_analysis.specs.Findings as linter
use Rattle.kube_cel_analysis.specs.declared.finding.LintKind.{LintKind}
use Rattle.kube_cel_analysis.specs.declared.finding.LintKind.TheVariants.{Compile, Function, Scope, Cost, Bounds, Depth}
use Rattle.kube_manifests_review.specs.Calls.{unknown_text}
use Rattle.kube_manifests_review.specs.Candidates.{Candidate, always}
use Rattle.kube_manifests_review.specs.Features.{missing_functions, two_variable_macros}
use Rattle.kube_manifests_review.specs.declared.finding.ReviewKind.TheVariants as kind

-- whether a message says that a function of one of these names is unknown
abbrev pub is_about : List (List ℕ) → List ℕ → Bool
is_about names message = list_any (λ n. bytes_eq (unknown_text n) message) names

-- whether it says so of one that this project lacks
abbrev pub is_lacked_message : List ℕ → Bool
is_lacked_message message = is_about two_variable_macros message || is_about missing_functions message

-- whether a finding of this kind, with this message, is about such a function
abbrev pub is_of_lacked : LintKind → List ℕ → Bool
is_of_lacked Compile message = false
is_of_lacked Function message = is_lacked_message message
is_of_lacked Scope message = false
is_of_lacked Cost message = false
is_of_lacked Bounds message = false
is_of_lacked Depth message = false

-- whether a finding of this kind is about a name of the rule that was last found to call one
abbrev pub is_name_of : LintKind → List ℕ → Option (List ℕ) → Bool
is_name_of Compile rule last = false
is_name_of Function rule last = false
is_name_of Scope rule last = option_map_or (bytes_eq rule) last false
is_name_of Cost rule last = false
is_name_of Bounds rule last = false
is_name_of Depth rule last = false

-- a finding of the linter, with its pointer into the document
abbrev pub candidate_of_finding : List ℕ → linter.Finding → Candidate
candidate_of_finding base f = record {
  finding = record {
    pointer = base ++ f.pointer;
    rule = f.rule;
    kind = kind.Lint f.kind;
    message = f.message;
  };
  when = always;
}

-- the candidates for one finding, given the rule that was last found to call such a function
abbrev pub lint_candidate : List ℕ → Option (List ℕ) → linter.Finding → List Candidate
lint_candidate base last f =
    if is_of_lacked f.kind f.message || is_name_of f.kind f.rule last then []
    else candidate_of_finding base f ∷ []

-- the rule that was last found to call such a function, afterwards
abbrev pub last_lacking : Option (List ℕ) → linter.Finding → Option (List ℕ)
last_lacking last f = if is_of_lacked f.kind f.message then Some f.rule else last

abbrev pub lint_candidates : List ℕ → Option (List ℕ) → List linter.Finding → List Candidate
lint_candidates base last [] = []
lint_candidates base last (f ∷ fs) =
    lint_candidate base last f ++ lint_candidates base (last_lacking last f) fs

-- the bytes of a text that findings share
abbrev pub shared_bytes : Rc (String Global) Global → List ℕ
shared_bytes s = string_bytes s.value
