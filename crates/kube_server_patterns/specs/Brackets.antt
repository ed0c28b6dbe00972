-- Trusted by the clauses of other library calls.
-- What stands in brackets (Go's package `regexp/syntax`, "Syntax", character class elements):
-- characters, ranges, `\d` and the like, `[:alpha:]` and the like. A closing bracket that comes
-- first is a character, and so is a hyphen that has no last character of a range behind it.
use Rattle.std.specs.Prelude.{ℕ, nat_eq, nat_lt, Bool, true, false, ◌&&◌, ◌||◌, not, List, [], ◌∷◌, drop, Option, Some, None, option_and_then, Result, Ok, Err, if◌then◌else◌}
use Rattle.std.specs.Char.{is_ascii}
use Rattle.kube_server_patterns.specs.Classes.{class_of_name, lettered, unless_folded}
use Rattle.kube_server_patterns.specs.Escapes.{escape}
use Rattle.kube_server_patterns.specs.Fronts.{Read, after, begins, until}
use Rattle.kube_server_patterns.specs.declared.lexeme.Lexeme.{Lexeme}
use Rattle.kube_server_patterns.specs.declared.lexeme.Lexeme.TheVariants.{Range, Member, CloseBracket}
use Rattle.kube_server_patterns.specs.declared.named.Named.{Named}
use Rattle.kube_server_patterns.specs.declared.refusal.Limit.TheVariants.{ColonInBrackets, FoldedCharacter, UnicodeClass}
use Rattle.kube_server_patterns.specs.declared.refusal.Refusal.{Refusal}
use Rattle.kube_server_patterns.specs.declared.refusal.Refusal.TheVariants.{Invalid, Unsupported}

-- ---- characters and ranges

unfoldable pub single : List ℕ → Read ℕ
single [] = Err Invalid
single (c ∷ t) = if nat_eq c 92 then escape t else Ok (c, t)

-- the last character of a range after its first one, which is also the last one if no other follows
unfoldable pub range_end : ℕ → List ℕ → Read ℕ
range_end first [] = Ok (first, [])
range_end first (h ∷ []) = Ok (first, h ∷ [])
range_end first (h ∷ c ∷ t) =
    if nat_eq h 45 && not (nat_eq c 93) then single (c ∷ t) else Ok (first, h ∷ c ∷ t)

-- a range that has a character; where case is ignored, of ASCII alone
unfoldable pub range_between : Bool → ℕ → ℕ → Result Lexeme Refusal
range_between folds first last =
    if nat_lt last first then Err Invalid
    else (if folds && not (is_ascii last) then Err (Unsupported FoldedCharacter)
    else Ok (Range first last))

abbrev pub range_and_rest : Result Lexeme Refusal → List ℕ → Read Lexeme
range_and_rest (Ok lexeme) t = Ok (lexeme, t)
range_and_rest (Err e) t = Err e

abbrev pub range_to : Bool → ℕ → Read ℕ → Read Lexeme
range_to folds first (Ok found) = range_and_rest (range_between folds first found.0) found.1
range_to folds first (Err e) = Err e

abbrev pub range_from : Bool → Read ℕ → Read Lexeme
range_from folds (Ok found) = range_to folds found.0 (range_end found.0 found.1)
range_from folds (Err e) = Err e

unfoldable pub range : Bool → List ℕ → Read Lexeme
range folds t = range_from folds (single t)

-- ---- classes

abbrev pub member_of : Bool → List ℕ → Result Named Refusal → Read Lexeme
member_of negated t (Ok class) = Ok (Member class negated, t)
member_of negated t (Err e) = Err e

abbrev pub of_class : Bool → Bool → List ℕ → Option Named → Read Lexeme
of_class folds negated t None = Err (Unsupported ColonInBrackets)
of_class folds negated t (Some class) = member_of negated t (unless_folded class folds)

abbrev pub closed_class : Bool → Bool → List ℕ → Option (List ℕ) → Read Lexeme
closed_class folds negated name None = Err (Unsupported ColonInBrackets)
closed_class folds negated name (Some t) = of_class folds negated t (class_of_name name)

abbrev pub class_found : Bool → Bool → Option (List ℕ × List ℕ) → Read Lexeme
class_found folds negated None = Err (Unsupported ColonInBrackets)
class_found folds negated (Some found) = closed_class folds negated found.0 (after 93 found.1)

-- the name of a class, up to `:]`
unfoldable pub class_named : Bool → Bool → List ℕ → Read Lexeme
class_named folds negated t = class_found folds negated (until 58 t)

abbrev pub colon_at : Bool → List ℕ → Option (List ℕ) → Read Lexeme
colon_at folds t (Some rest) = class_named folds true rest
colon_at folds t None = class_named folds false t

-- what follows `[:`
unfoldable pub after_colon : Bool → List ℕ → Read Lexeme
after_colon folds t = colon_at folds t (after 94 t)

abbrev pub lettered_or : Bool → Option (Named × Bool) → List ℕ → Read Lexeme → Read Lexeme
lettered_or folds (Some found) t other = member_of found.1 t (unless_folded found.0 folds)
lettered_or folds None t other = other

-- a text, and what follows its backslash
unfoldable pub escaped_letter : Bool → List ℕ → List ℕ → Read Lexeme
escaped_letter folds t [] = range folds t
escaped_letter folds t (c ∷ u) =
    if nat_eq c 112 || nat_eq c 80 then Err (Unsupported UnicodeClass)
    else lettered_or folds (lettered c) u (range folds t)

abbrev pub escaped_at : Bool → List ℕ → Option (List ℕ) → Read Lexeme
escaped_at folds t (Some u) = escaped_letter folds t u
escaped_at folds t None = range folds t

unfoldable pub escaped : Bool → List ℕ → Read Lexeme
escaped folds t = escaped_at folds t (after 92 t)

abbrev pub member_at : Bool → List ℕ → Option (List ℕ) → Read Lexeme
member_at folds t (Some u) = after_colon folds u
member_at folds t None = escaped folds t

unfoldable pub colon : List ℕ → Option (List ℕ)
colon t = option_and_then (after 58) (after 91 t)

unfoldable pub member : Bool → List ℕ → Read Lexeme
member folds t = member_at folds t (colon t)

-- a member, or the closing bracket, which can't come before the first member
unfoldable pub in_bracket : Bool → Bool → List ℕ → Read Lexeme
in_bracket folds is_first t =
    if not is_first && begins 93 t then Ok (CloseBracket, drop 1 t) else member folds t
