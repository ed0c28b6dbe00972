-- Trusted by the headline.
-- What holds of a built pattern, and of the answers.
use Rattle.std.specs.Prelude.{◌≡◌, ℕ, ◌<◌, List, map, length, Option, Some, is_some, option_map, get_or, IsSome, IsAscii, Bool}
use Rattle.std.specs.BTreeMap.{BTreeMap, get_by_text}
use Rattle.std.specs.declared.string.String.{String}
use Rattle.std.specs.declared.alloc.Global.{Global}
use Rattle.regex.specs.Patterns.{Re, find_str, find_all_str, span}
use Rattle.regex.specs.Strings.{regex_pattern}
use Rattle.regex.specs.declared.string.regex.Regex.{Regex}
use Rattle.regex_dfa.specs.Search.{end_from}
use Rattle.regex_dfa.specs.declared.dfa.Dfa.{Dfa}
use Rattle.cel_patterns.specs.Book.{Book, IsBook, first_of, pattern_of_text}

-- the regex finds the same in each text as the pattern
abbrev pub SearchesAs : Regex → Re → Type 0
SearchesAs regex re = (text : List ℕ) → ((k : ℕ) → get_or text k 0 < 256) →
    (is_some (find_str (regex_pattern regex) text 0) ≡ is_some (find_str re text 0))
    × (map span (find_all_str (regex_pattern regex) text) ≡ map span (find_all_str re text))

-- the text parses as a pattern, and the regex finds the same
abbrev pub IsRegexOf : List ℕ → Regex → Type 0
IsRegexOf text regex =
    IsSome (pattern_of_text text) × ((re : Re) → pattern_of_text text ≡ Some re → SearchesAs regex re)

-- in each ASCII text the states find an end exactly if the pattern matches
abbrev pub EndsAs : Dfa → Re → Type 0
EndsAs dfa re = (text : List ℕ) → ((k : ℕ) → get_or text k 0 < 256) → IsAscii text →
    is_some (end_from dfa.nfa text (length text) dfa.nfa.unanchored 0) ≡ is_some (find_str re text 0)

-- the text parses as a pattern, and the states match if it does
abbrev pub IsDfaOf : List ℕ → Dfa → Type 0
IsDfaOf pattern dfa =
    IsSome (pattern_of_text pattern) × ((re : Re) → pattern_of_text pattern ≡ Some re → EndsAs dfa re)

-- `found` is whether the pattern matches anywhere in the text
abbrev pub IsMatchAnswer : List ℕ → List ℕ → Bool → Type 0
IsMatchAnswer pattern text found =
    (re : Re) → pattern_of_text pattern ≡ Some re → found ≡ is_some (find_str re text 0)

-- the spans are those where the pattern matches, up to the limit
abbrev pub FindsAll : List ℕ → List ℕ → Option ℕ → List (ℕ × ℕ) → Type 0
FindsAll pattern text limit spans =
    (re : Re) → pattern_of_text pattern ≡ Some re → spans ≡ first_of limit (map span (find_all_str re text))

-- the slot of each text's pattern, or None if the text was refused
abbrev pub Answers : Type 0
Answers = BTreeMap (String Global) (Option ℕ)

-- the answers as entries of a book
abbrev pub book_of : Answers → Book
book_of answers text = option_map is_some (get_by_text answers text)

-- each text that was built parses as a pattern
abbrev pub IsFaithful : Answers → Type 0
IsFaithful answers = IsBook (book_of answers)
