-- Trusted by the clauses of other library calls.
-- The beginnings of groups (Go's package `regexp/syntax`, "Syntax", grouping): `(`, `(?P<name>`,
-- `(?<name>`, `(?flags:`, and `(?flags)`, which sets flags up to the end of the group around it.
-- Flags are `i`, `m`, `s` and `U`; those after a hyphen, of which there is at least one, are
-- cleared.
use Rattle.std.specs.Prelude.{ℕ, nat_eq, nat_lt, Bool, true, false, ◌&&◌, ◌||◌, not, List, [], ◌∷◌, length, Option, Some, None, Result, Ok, Err, if◌then◌else◌}
use Rattle.std.specs.Char.{is_ascii_alphanumeric}
use Rattle.std.specs.List.{list_all}
use Rattle.kube_server_patterns.specs.Fronts.{Read, until}
use Rattle.kube_server_patterns.specs.declared.lexeme.Flags.{Flags}
use Rattle.kube_server_patterns.specs.declared.lexeme.Lexeme.{Lexeme}
use Rattle.kube_server_patterns.specs.declared.lexeme.Lexeme.TheVariants.{Open, Set}
use Rattle.kube_server_patterns.specs.declared.opening.Letters.{Letters}
use Rattle.kube_server_patterns.specs.declared.refusal.Refusal.{Refusal}
use Rattle.kube_server_patterns.specs.declared.refusal.Refusal.TheVariants.{Invalid}

-- the flags with one of them set or cleared, if the letter is that of a flag
unfoldable pub with_flag : Flags → ℕ → Bool → Option Flags
with_flag flags c on =
    if nat_eq c 105 then Some (record flags { folds = on })
    else (if nat_eq c 109 then Some (record flags { lines = on })
    else (if nat_eq c 115 then Some (record flags { dots = on })
    else (if nat_eq c 85 then Some (record flags { lazy = on })
    else None)))

abbrev pub flag_or_none : Letters → Option Flags → Option Letters
flag_or_none letters (Some changed) = Some (record letters { flags = changed; is_complete = true })
flag_or_none letters None = None

-- the letters with a further one: a hyphen, which comes once, or that of a flag
abbrev pub with_letter : Letters → ℕ → Option Letters
with_letter letters c =
    if nat_eq c 45
    then (if letters.sets then Some (record letters { sets = false; is_complete = false }) else None)
    else flag_or_none letters (with_flag letters.flags c letters.sets)

-- what the letters say at a colon or at a closing parenthesis
abbrev pub ended : Letters → ℕ → Result Lexeme Refusal
ended letters c =
    if not letters.is_complete then Err Invalid
    else (if nat_eq c 58 then Ok (Open letters.flags) else Ok (Set letters.flags))

abbrev pub ended_with : List ℕ → Result Lexeme Refusal → Read Lexeme
ended_with t (Ok lexeme) = Ok (lexeme, t)
ended_with t (Err e) = Err e

abbrev pub ended_before : Letters → ℕ → List ℕ → Read Lexeme
ended_before letters c t = ended_with t (ended letters c)

abbrev pub letters_or_none : (Letters → Read Lexeme) → Option Letters → Read Lexeme
letters_or_none others (Some letters) = others letters
letters_or_none others None = Err Invalid

-- the letters up to a colon or a closing parenthesis, after those before
abbrev pub flagged_from : Letters → List ℕ → Read Lexeme
flagged_from letters [] = Err Invalid
flagged_from letters (c ∷ t) =
    if nat_eq c 58 || nat_eq c 41 then ended_before letters c t
    else letters_or_none (λ more. flagged_from more t) (with_letter letters c)

unfoldable pub flagged : Flags → List ℕ → Read Lexeme
flagged flags t = flagged_from (record { flags = flags; sets = true; is_complete = true }) t

abbrev pub is_in_name : ℕ → Bool
is_in_name c = is_ascii_alphanumeric c || nat_eq c 95

unfoldable pub is_name : List ℕ → Bool
is_name name = nat_lt 0 (length name) && list_all is_in_name name

abbrev pub name_found : Flags → Option (List ℕ × List ℕ) → Read Lexeme
name_found flags None = Err Invalid
name_found flags (Some found) = if is_name found.0 then Ok (Open flags, found.1) else Err Invalid

unfoldable pub named_group : Flags → List ℕ → Read Lexeme
named_group flags t = name_found flags (until 62 t)

-- what follows `(?`
abbrev pub after_question : Flags → List ℕ → Read Lexeme
after_question flags (a ∷ b ∷ t) =
    if nat_eq a 80 && nat_eq b 60 then named_group flags t
    else (if nat_eq a 60 then named_group flags (b ∷ t) else flagged flags (a ∷ b ∷ t))
after_question flags (a ∷ []) = if nat_eq a 60 then named_group flags [] else flagged flags (a ∷ [])
after_question flags [] = flagged flags []

-- what follows an opening parenthesis
unfoldable pub opening : Flags → List ℕ → Read Lexeme
opening flags [] = Ok (Open flags, [])
opening flags (c ∷ t) = if nat_eq c 63 then after_question flags t else Ok (Open flags, c ∷ t)
