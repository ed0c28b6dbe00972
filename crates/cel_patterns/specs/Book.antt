-- Trusted by the headline.
-- Which pattern texts are refused, and what the others match. The meaning of a pattern text is
-- that of Rust's crate `regex` (docs.rs/regex, "Syntax"), and its matches are the
-- leftmost-first ones that don't overlap ("Regex::find_iter"). The functions `matches`, `find`
-- and `findAll` of CEL and Kubernetes are defined by it.
use Rattle.std.specs.Prelude.{◌≡◌, ◌⊎◌, ◌≤◌, ℕ, Bool, true, false, List, map, take, length, Option, Some, None, is_some, option_map, IsSome, IsCharBoundary}
use Rattle.std.specs.Str.{chars}
use Rattle.regex_syntax.specs.Grammar.{read}
use Rattle.regex.specs.Patterns.{Re, find_str, find_all_str, span, default_config}

-- the pattern that the text parses to, if any
unfoldable pub pattern_of_text : List ℕ → Option Re
pattern_of_text text = option_map (λ p. p.0.value) (read default_config (chars text))

-- the entries: true for a pattern text that was built, false for one that was refused
abbrev pub Book : Type 0
Book = List ℕ → Option Bool

-- only texts that parse as patterns were built
abbrev pub IsBook : Book → Type 0
IsBook book = (text : List ℕ) → book text ≡ Some true → IsSome (pattern_of_text text)

-- later has each entry of earlier
pub record Extends (later earlier : Book) : Type 0 where
  pub keeps : (text : List ℕ) (built : Bool) → earlier text ≡ Some built → later text ≡ Some built

-- the text is refused: its entry says so, or it has no entry and doesn't parse as a pattern
abbrev pub IsRefused : Book → List ℕ → Type 0
IsRefused book text = (book text ≡ Some false) ⊎ ((book text ≡ None) × (pattern_of_text text ≡ None))

-- a plain book refuses no text that parses as a pattern
abbrev pub IsPlain : Book → Type 0
IsPlain book = (text : List ℕ) → IsRefused book text → pattern_of_text text ≡ None

-- the pattern, unless the entry refuses it
abbrev pub unless_refused : Option Bool → Option Re → Option Re
unless_refused None pattern = pattern
unless_refused (Some true) pattern = pattern
unless_refused (Some false) pattern = None

-- the pattern of a text under a book, or None if it is refused
abbrev pub pattern_in : Book → List ℕ → Option Re
pattern_in book text = unless_refused (book text) (pattern_of_text text)

-- whether the pattern matches anywhere in the text; None if it is refused
unfoldable pub matched_by : Book → List ℕ → List ℕ → Option Bool
matched_by book pattern text = option_map (λ re. is_some (find_str re text 0)) (pattern_in book pattern)

-- the first items up to the limit, or all if there is none
abbrev pub first_of : {A : Type 0} → Option ℕ → List A → List A
first_of None xs = xs
first_of (Some most) xs = take most xs

-- the byte spans (start, end) of the matches in the text, in order,
-- up to the limit; None if the pattern is refused
unfoldable pub found_by : Book → List ℕ → List ℕ → Option ℕ → Option (List (ℕ × ℕ))
found_by book pattern text limit =
    option_map (λ re. first_of limit (map span (find_all_str re text))) (pattern_in book pattern)

-- the span consists of whole characters of the text
abbrev pub IsSpanIn : List ℕ → ℕ × ℕ → Type 0
IsSpanIn text (start, end) =
    (start ≤ end) × (end ≤ length text) × IsCharBoundary text start × IsCharBoundary text end
