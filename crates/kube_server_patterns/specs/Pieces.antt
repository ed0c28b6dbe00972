-- Trusted by the clauses of other library calls.
-- What is written for a lexeme, in the syntax of the crate `regex` (docs.rs/regex, "Syntax") at its
-- default flags. Each flag is written out where it matters.
use Rattle.std.specs.Prelude.{ℕ, nat_eq, Bool, ◌||◌, List, [], ◌++◌, codes, encode_utf8, Option, Some, None, if◌then◌else◌}
use Rattle.std.specs.Fmt.{decimal}
use Rattle.kube_server_patterns.specs.Classes.{class_text, negated_text}
use Rattle.kube_server_patterns.specs.declared.lexeme.Flags.{Flags}
use Rattle.kube_server_patterns.specs.declared.lexeme.Lexeme.{Lexeme}
use Rattle.kube_server_patterns.specs.declared.lexeme.Lexeme.TheVariants.{Character, Class, Dot, Begin, End, TextBegin, TextEnd, WordBoundary, Open, Close, Or, Repeat, OpenBracket, Range, Member, CloseBracket}
use Rattle.kube_server_patterns.specs.declared.lexeme.Repetition.{Repetition}
use Rattle.kube_server_patterns.specs.declared.named.Named.{Named}

-- the character has a meaning of its own in a pattern: \ . + * ? ( ) | [ ] { } ^ $ # & - ~
unfoldable pub is_special : ℕ → Bool
is_special c =
    nat_eq c 92 || (nat_eq c 46 || (nat_eq c 43 || (nat_eq c 42 || (nat_eq c 63 || (nat_eq c 40
    || (nat_eq c 41 || (nat_eq c 124 || (nat_eq c 91 || (nat_eq c 93 || (nat_eq c 123 || (nat_eq c 125
    || (nat_eq c 94 || (nat_eq c 36 || (nat_eq c 35 || (nat_eq c 38 || (nat_eq c 45 || nat_eq c 126))))))))))))))))

-- the character itself, after a backslash if it is special
unfoldable pub character_text : ℕ → List ℕ
character_text c = (if is_special c then codes "\\" else []) ++ encode_utf8 c

abbrev pub folded_text : ℕ → List ℕ
folded_text c = codes "(?i:" ++ (character_text c ++ codes ")")

abbrev pub class_written : Named → Bool → List ℕ
class_written class negated = if negated then negated_text class else class_text class

abbrev pub bracket_text : Bool → Bool → List ℕ
bracket_text folds negated =
    if folds then (if negated then codes "(?i:[^" else codes "(?i:[")
    else (if negated then codes "[^" else codes "[")

abbrev pub counts_text : ℕ → Option ℕ → List ℕ
counts_text least (Some most) = codes "{" ++ (decimal least ++ (codes "," ++ (decimal most ++ codes "}")))
counts_text least None = codes "{" ++ (decimal least ++ codes ",}")

abbrev pub repetition_text : Repetition → List ℕ
repetition_text r = counts_text r.least r.most ++ (if r.greedy then [] else codes "?")

-- the text of a lexeme that has one text under the flags
abbrev pub fixed_text : Flags → Lexeme → List ℕ
fixed_text flags Dot = if flags.dots then codes "(?s:.)" else codes "."
fixed_text flags Begin = if flags.lines then codes "(?m:^)" else codes "\\A"
fixed_text flags End = if flags.lines then codes "(?m:$)" else codes "\\z"
fixed_text flags TextBegin = codes "\\A"
fixed_text flags TextEnd = codes "\\z"
fixed_text flags WordBoundary = codes "(?-u:\\b)"
fixed_text flags (Open inside) = codes "(?:"
fixed_text flags Close = codes ")"
fixed_text flags Or = codes "|"
fixed_text flags (OpenBracket negated) = bracket_text flags.folds negated
fixed_text flags CloseBracket = if flags.folds then codes "])" else codes "]"
fixed_text flags _ = []

-- what is written for a lexeme at a place where these flags hold
abbrev pub written : Flags → Lexeme → List ℕ
written flags (Character c) = if flags.folds then folded_text c else character_text c
written flags (Class class negated) = codes "[" ++ (class_written class negated ++ codes "]")
written flags (Range first last) = character_text first ++ (codes "-" ++ character_text last)
written flags (Member class negated) = class_written class negated
written flags (Repeat r) = repetition_text r
written flags lexeme = fixed_text flags lexeme
