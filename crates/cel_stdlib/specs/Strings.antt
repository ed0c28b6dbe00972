-- Trusted by the headline.
-- String tests (CEL language definition, "List of Standard Definitions", `contains`,
-- `startsWith`, `endsWith`, `matches`). A string is its UTF-8 bytes: one text contains the bytes
-- of another only where it contains its characters.
use Rattle.std.specs.Prelude.{ℕ, nat_eq, ◌||◌, List, [], ◌∷◌, codes, Bool, Option, Some, None, Ok, Err}
use Rattle.std.specs.List.{starts_with, ends_with}
use Rattle.std.specs.Option.{option_map_or}
use Rattle.cel_patterns.specs.Book.{Book, matched_by}
use Rattle.cel_value.specs.Data.{Data, bool, text}
use Rattle.cel_value.specs.Faults.{Fault, no_overload, invalid_pattern}
use Rattle.cel_semantics.specs.Outcome.{Outcome}

-- whether the text contains the part
abbrev pub has_part : List ℕ → List ℕ → Bool
has_part [] part = starts_with nat_eq [] part
has_part (c ∷ s) part = starts_with nat_eq (c ∷ s) part || has_part s part

-- the texts of two strings, or None if one of the values is no string
abbrev pub texts_in : Data → Data → Option (List ℕ × List ℕ)
texts_in (text s) (text t) = Some (s, t)
texts_in _ _ = None

-- applies a test to two strings; other kinds are an error of the named function
abbrev pub string_test : List ℕ → (List ℕ → List ℕ → Bool) → Data → Data → Outcome
string_test name test v w =
    option_map_or (λ p. Ok (bool (test p.0 p.1))) (texts_in v w) (Err (no_overload name))

abbrev pub contains : Data → Data → Outcome
contains = string_test (codes "contains") has_part

abbrev pub begins : Data → Data → Outcome
begins = string_test (codes "startsWith") (starts_with nat_eq)

abbrev pub ends : Data → Data → Outcome
ends = string_test (codes "endsWith") (ends_with nat_eq)

abbrev pub refused_pattern : Fault
refused_pattern = invalid_pattern (codes "matches")

-- whether a pattern matched; a refused pattern is an error
abbrev pub pattern_found : Option Bool → Outcome
pattern_found o = option_map_or (λ b. Ok (bool b)) o (Err refused_pattern)

-- whether a pattern matches anywhere in a text, under a book
abbrev pub matches : Data → Data → Book → Outcome
matches v w book = option_map_or (λ p. pattern_found (matched_by book p.1 p.0)) (texts_in v w)
    (Err (no_overload (codes "matches")))
