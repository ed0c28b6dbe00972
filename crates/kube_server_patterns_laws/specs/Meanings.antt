-- Trusted by laws alone.
-- What some patterns of RE2 match, in the words in which the crate `regex` says what a pattern matches.
use Rattle.std.specs.Prelude.{ℕ, List, [], ◌∷◌, IsSomeAnd, codes, Result, Ok, Err}
use Rattle.std.specs.Str.{chars}
use Rattle.regex_hir.specs.Re.{Re, char_in, literal, look}
use Rattle.regex_hir.specs.declared.look.Look.TheVariants.{Start, End, StartLf, EndLf, WordAscii}
use Rattle.regex_syntax.specs.Grammar.{read}
use Rattle.regex_syntax.specs.Same.{SameTree}
use Rattle.regex_syntax.specs.Verdict.{default_config}
use Rattle.kube_server_patterns.specs.Translation.{translation}
use Rattle.kube_server_patterns.specs.declared.refusal.Refusal.{Refusal}

-- The pattern of the crate `regex` matches as the tree does. A tree says which ways to match are tried
-- in which order, and what each reads.
abbrev pub IsReadAs : List ℕ → Re → Type 0
IsReadAs pattern re = IsSomeAnd (read default_config (chars pattern)) (λ (found, _). SameTree found.value re)

abbrev pub IsTranslatedTo : Result (List ℕ) Refusal → Re → Type 0
IsTranslatedTo (Ok pattern) re = IsReadAs pattern re
IsTranslatedTo (Err refusal) re = ⊥

-- the translation of the pattern of RE2 matches as the tree does
abbrev pub Means : List ℕ → Re → Type 0
Means pattern re = IsTranslatedTo (translation pattern) re

-- ---- sets of characters

-- a pattern, and the ranges of the characters that it matches
abbrev pub Row : Type 0
Row = List ℕ × List (ℕ × ℕ)

abbrev pub AreSets : List Row → Type 0
AreSets [] = Unit {0}
AreSets (row ∷ rows) = Means row.0 (char_in row.1) × AreSets rows

-- the classes by name (Go's package `regexp/syntax`, "Syntax", ASCII character classes)
abbrev pub by_name : List Row
by_name =
    (codes "[[:alnum:]]", (48, 57) ∷ (65, 90) ∷ (97, 122) ∷ [])
    ∷ (codes "[[:^alnum:]]", (0, 47) ∷ (58, 64) ∷ (91, 96) ∷ (123, 0x10FFFF) ∷ [])
    ∷ (codes "[[:alpha:]]", (65, 90) ∷ (97, 122) ∷ [])
    ∷ (codes "[[:^alpha:]]", (0, 64) ∷ (91, 96) ∷ (123, 0x10FFFF) ∷ [])
    ∷ (codes "[[:ascii:]]", (0, 127) ∷ [])
    ∷ (codes "[[:^ascii:]]", (128, 0x10FFFF) ∷ [])
    ∷ (codes "[[:blank:]]", (9, 9) ∷ (32, 32) ∷ [])
    ∷ (codes "[[:^blank:]]", (0, 8) ∷ (10, 31) ∷ (33, 0x10FFFF) ∷ [])
    ∷ (codes "[[:cntrl:]]", (0, 31) ∷ (127, 127) ∷ [])
    ∷ (codes "[[:^cntrl:]]", (32, 126) ∷ (128, 0x10FFFF) ∷ [])
    ∷ (codes "[[:digit:]]", (48, 57) ∷ [])
    ∷ (codes "[[:^digit:]]", (0, 47) ∷ (58, 0x10FFFF) ∷ [])
    ∷ (codes "[[:graph:]]", (33, 126) ∷ [])
    ∷ (codes "[[:^graph:]]", (0, 32) ∷ (127, 0x10FFFF) ∷ [])
    ∷ (codes "[[:lower:]]", (97, 122) ∷ [])
    ∷ (codes "[[:^lower:]]", (0, 96) ∷ (123, 0x10FFFF) ∷ [])
    ∷ (codes "[[:print:]]", (32, 126) ∷ [])
    ∷ (codes "[[:^print:]]", (0, 31) ∷ (127, 0x10FFFF) ∷ [])
    ∷ (codes "[[:punct:]]", (33, 47) ∷ (58, 64) ∷ (91, 96) ∷ (123, 126) ∷ [])
    ∷ (codes "[[:^punct:]]", (0, 32) ∷ (48, 57) ∷ (65, 90) ∷ (97, 122) ∷ (127, 0x10FFFF) ∷ [])
    ∷ (codes "[[:space:]]", (9, 13) ∷ (32, 32) ∷ [])
    ∷ (codes "[[:^space:]]", (0, 8) ∷ (14, 31) ∷ (33, 0x10FFFF) ∷ [])
    ∷ (codes "[[:upper:]]", (65, 90) ∷ [])
    ∷ (codes "[[:^upper:]]", (0, 64) ∷ (91, 0x10FFFF) ∷ [])
    ∷ (codes "[[:word:]]", (48, 57) ∷ (65, 90) ∷ (95, 95) ∷ (97, 122) ∷ [])
    ∷ (codes "[[:^word:]]", (0, 47) ∷ (58, 64) ∷ (91, 94) ∷ (96, 96) ∷ (123, 0x10FFFF) ∷ [])
    ∷ (codes "[[:xdigit:]]", (48, 57) ∷ (65, 70) ∷ (97, 102) ∷ [])
    ∷ (codes "[[:^xdigit:]]", (0, 47) ∷ (58, 64) ∷ (71, 96) ∷ (103, 0x10FFFF) ∷ [])
    ∷ []

-- those of a letter (the same, Perl character classes, all ASCII-only)
abbrev pub by_letter : List Row
by_letter =
    (codes "\\d", (48, 57) ∷ [])
    ∷ (codes "\\D", (0, 47) ∷ (58, 0x10FFFF) ∷ [])
    ∷ (codes "\\s", (9, 10) ∷ (12, 13) ∷ (32, 32) ∷ [])
    ∷ (codes "\\S", (0, 8) ∷ (11, 11) ∷ (14, 31) ∷ (33, 0x10FFFF) ∷ [])
    ∷ (codes "\\w", (48, 57) ∷ (65, 90) ∷ (95, 95) ∷ (97, 122) ∷ [])
    ∷ (codes "\\W", (0, 47) ∷ (58, 64) ∷ (91, 94) ∷ (96, 96) ∷ (123, 0x10FFFF) ∷ [])
    ∷ []

-- members of brackets, where nothing is an operator
abbrev pub in_brackets : List Row
in_brackets =
    (codes "[a-z]", (97, 122) ∷ [])
    ∷ (codes "[^a-z]", (0, 96) ∷ (123, 0x10FFFF) ∷ [])
    ∷ (codes "[a&&b]", (38, 38) ∷ (97, 98) ∷ [])
    ∷ (codes "[]a]", (93, 93) ∷ (97, 97) ∷ [])
    ∷ (codes "[[]", (91, 91) ∷ [])
    ∷ (codes "[\\d_]", (48, 57) ∷ (95, 95) ∷ [])
    ∷ (codes "[^\\S]", (9, 10) ∷ (12, 13) ∷ (32, 32) ∷ [])
    ∷ []

-- a dot matches all but a line feed, or under `s` all
abbrev pub of_dots : List Row
of_dots =
    (codes ".", (0, 9) ∷ (11, 0x10FFFF) ∷ [])
    ∷ (codes "(?s).", (0, 0x10FFFF) ∷ [])
    ∷ []

-- ---- places and characters

-- a pattern, and the tree as which it matches
abbrev pub AreTrees : List (List ℕ × Re) → Type 0
AreTrees [] = Unit {0}
AreTrees (row ∷ rows) = Means row.0 row.1 × AreTrees rows

-- the ends of the text, or under `m` of each line, and of words of ASCII
abbrev pub of_places : List (List ℕ × Re)
of_places =
    (codes "^", look Start)
    ∷ (codes "$", look End)
    ∷ (codes "(?m)^", look StartLf)
    ∷ (codes "(?m)$", look EndLf)
    ∷ (codes "\\A", look Start)
    ∷ (codes "\\z", look End)
    ∷ (codes "\\b", look WordAscii)
    ∷ []

-- characters, also a brace that begins no counts
abbrev pub of_characters : List (List ℕ × Re)
of_characters =
    (codes "a", literal (codes "a"))
    ∷ (codes "{", literal (codes "{"))
    ∷ (codes "\\{", literal (codes "{"))
    ∷ (codes "\\<", literal (codes "<"))
    ∷ (codes "\\_", literal (codes "_"))
    ∷ (codes "\\101", literal (codes "A"))
    ∷ (codes "\\x41", literal (codes "A"))
    ∷ (codes "\\x{41}", literal (codes "A"))
    ∷ (codes "\\Q*\\E", literal (codes "*"))
    ∷ []
