-- Trusted by the clauses of other library calls.
-- The functions that take a pattern: `matches` (CEL language definition, "List of Standard
-- Definitions"), `find` and `findAll` (Kubernetes documentation, "CEL in Kubernetes", regex
-- library). An API server reads the pattern in the syntax of RE2. A pattern that isn't translated,
-- or whose translation the book refuses, has no answer here, unless it is no pattern of RE2.
use Rattle.std.specs.Prelude.{ℕ, List, codes, Bool, ◌||◌, Option, Some, None, Result, Ok, Err, if◌then◌else◌}
use Rattle.std.specs.Str.{bytes_eq}
use Rattle.cel_patterns.specs.Book.{Book}
use Rattle.cel_value.specs.Data.{Data, text}
use Rattle.cel_value.specs.Faults.{Fault, undeclared, invalid_pattern}
use Rattle.cel_semantics.specs.Outcome.{Outcome}
use Rattle.cel_stdlib.specs.Strings.{matches}
use Rattle.kube_functions_strings.specs.Regex.{find_outcome, find_all_outcome}
use Rattle.kube_server_patterns.specs.Translation.{translation}
use Rattle.kube_server_patterns.specs.declared.refusal.Limit.{Limit}
use Rattle.kube_server_patterns.specs.declared.refusal.Limit.TheVariants.{UnicodeClass, NotWordBoundary, Surrogate, FoldedCharacter, FoldedClass, ColonInBrackets, RepeatedRepetition, DeepGroups}
use Rattle.kube_server_patterns.specs.declared.refusal.Refusal.{Refusal}
use Rattle.kube_server_patterns.specs.declared.refusal.Refusal.TheVariants.{Invalid, Unsupported}

abbrev pub takes_pattern : List ℕ → Bool
takes_pattern name =
    bytes_eq name (codes "matches") || (bytes_eq name (codes "find") || bytes_eq name (codes "findAll"))

-- the text and the pattern, if the function takes them
abbrev pub pattern_in : List ℕ → Option Data → Option Data → Option (Data × List ℕ)
pattern_in name (Some (text s)) (Some (text p)) = if takes_pattern name then Some (text s, p) else None
pattern_in name v w = None

-- what isn't translated
abbrev pub limit_name : Limit → List ℕ
limit_name UnicodeClass = codes "class of Unicode in a pattern"
limit_name NotWordBoundary = codes "\\B in a pattern"
limit_name Surrogate = codes "surrogate in a pattern"
limit_name FoldedCharacter = codes "character beyond ASCII in a pattern without case"
limit_name FoldedClass = codes "class in a pattern without case"
limit_name ColonInBrackets = codes "[: in a pattern"
limit_name RepeatedRepetition = codes "repeated repetition in a pattern"
limit_name DeepGroups = codes "deep groups in a pattern"

abbrev pub not_translated : List ℕ → Refusal → Fault
not_translated name Invalid = invalid_pattern name
not_translated name (Unsupported limit) = undeclared (limit_name limit)

-- a pattern of RE2 that the book refuses is too large for it
abbrev pub of_pattern : Fault → Fault
of_pattern (invalid_pattern name) = undeclared (codes "large pattern")
of_pattern fault = fault

abbrev pub judged : Outcome → Outcome
judged (Ok v) = Ok v
judged (Err fault) = Err (of_pattern fault)

-- the answer by a pattern that is translated
abbrev pub answer_by_name : List ℕ → Data → Data → Option Data → Book → Outcome
answer_by_name name v w x book =
    if bytes_eq name (codes "find") then find_outcome v w book
    else (if bytes_eq name (codes "findAll") then find_all_outcome v w x book else matches v w book)

abbrev pub answer_by_translation : List ℕ → Data → Option Data → Result (List ℕ) Refusal → Book → Outcome
answer_by_translation name v x (Ok p) book = judged (answer_by_name name v (text p) x book)
answer_by_translation name v x (Err refusal) book = Err (not_translated name refusal)

-- the answer by a pattern in the syntax of RE2
abbrev pub answer_by_pattern : List ℕ → Data → List ℕ → Option Data → Book → Outcome
answer_by_pattern name v p x book = answer_by_translation name v x (translation p) book
