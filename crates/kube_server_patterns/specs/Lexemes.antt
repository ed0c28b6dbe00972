-- Trusted by the clauses of other library calls.
-- The lexemes of a pattern (Go's package `regexp/syntax`, "Syntax"), and how a place is read:
-- plainly, in brackets, or between `\Q` and `\E`, where each character is itself.
use Rattle.std.specs.Prelude.{ℕ, nat_eq, Bool, true, false, ◌&&◌, ◌||◌, not, List, [], ◌∷◌, Option, Some, None, Result, Ok, Err, if◌then◌else◌}
use Rattle.std.specs.Char.{is_ascii}
use Rattle.kube_server_patterns.specs.Brackets.{in_bracket}
use Rattle.kube_server_patterns.specs.Classes.{lettered, unless_folded}
use Rattle.kube_server_patterns.specs.Escapes.{escape}
use Rattle.kube_server_patterns.specs.Fronts.{Read, after}
use Rattle.kube_server_patterns.specs.Openings.{opening}
use Rattle.kube_server_patterns.specs.Repetitions.{braces, operator}
use Rattle.kube_server_patterns.specs.declared.lexeme.Flags.{Flags}
use Rattle.kube_server_patterns.specs.declared.lexeme.Lexeme.{Lexeme}
use Rattle.kube_server_patterns.specs.declared.lexeme.Lexeme.TheVariants.{Character, Class, Dot, Begin, End, TextBegin, TextEnd, WordBoundary, Quote, Unquote, Close, Or, OpenBracket, Range, Member, CloseBracket}
use Rattle.kube_server_patterns.specs.declared.lexeme.Mode.{Mode}
use Rattle.kube_server_patterns.specs.declared.lexeme.Mode.TheVariants.{Plain, Quoted, Bracket, Members}
use Rattle.kube_server_patterns.specs.declared.named.Named.{Named}
use Rattle.kube_server_patterns.specs.declared.refusal.Limit.TheVariants.{FoldedCharacter, NotWordBoundary, UnicodeClass}
use Rattle.kube_server_patterns.specs.declared.refusal.Refusal.{Refusal}
use Rattle.kube_server_patterns.specs.declared.refusal.Refusal.TheVariants.{Invalid, Unsupported}

-- a character; where case is ignored, of ASCII alone
abbrev pub character : Bool → ℕ → Result Lexeme Refusal
character folds c =
    if folds && not (is_ascii c) then Err (Unsupported FoldedCharacter) else Ok (Character c)

abbrev pub character_and_rest : Result Lexeme Refusal → List ℕ → Read Lexeme
character_and_rest (Ok lexeme) t = Ok (lexeme, t)
character_and_rest (Err e) t = Err e

abbrev pub class_outside : Bool → Result Named Refusal → Result (Option Lexeme) Refusal
class_outside negated (Ok class) = Ok (Some (Class class negated))
class_outside negated (Err e) = Err e

abbrev pub lettered_outside : Bool → Option (Named × Bool) → Result (Option Lexeme) Refusal
lettered_outside folds (Some found) = class_outside found.1 (unless_folded found.0 folds)
lettered_outside folds None = Ok None

-- what a letter after a backslash says, unless the escape is that of a character
unfoldable pub letter : Bool → ℕ → Result (Option Lexeme) Refusal
letter folds c =
    if nat_eq c 65 then Ok (Some TextBegin)
    else (if nat_eq c 122 then Ok (Some TextEnd)
    else (if nat_eq c 98 then Ok (Some WordBoundary)
    else (if nat_eq c 81 then Ok (Some Quote)
    else (if nat_eq c 66 then Err (Unsupported NotWordBoundary)
    else (if nat_eq c 112 || nat_eq c 80 then Err (Unsupported UnicodeClass)
    else lettered_outside folds (lettered c))))))

abbrev pub made_character : Bool → Read ℕ → Read Lexeme
made_character folds (Ok found) = character_and_rest (character folds found.0) found.1
made_character folds (Err e) = Err e

abbrev pub letter_or_character : Bool → ℕ → List ℕ → Result (Option Lexeme) Refusal → Read Lexeme
letter_or_character folds c t (Err e) = Err e
letter_or_character folds c t (Ok (Some lexeme)) = Ok (lexeme, t)
letter_or_character folds c t (Ok None) = made_character folds (escape (c ∷ t))

-- what follows a backslash
unfoldable pub escaped : Bool → List ℕ → Read Lexeme
escaped folds [] = Err Invalid
escaped folds (c ∷ t) = letter_or_character folds c t (letter folds c)

-- a character that is a lexeme by itself
unfoldable pub sign : ℕ → Option Lexeme
sign c =
    if nat_eq c 46 then Some Dot
    else (if nat_eq c 94 then Some Begin
    else (if nat_eq c 36 then Some End
    else (if nat_eq c 41 then Some Close
    else (if nat_eq c 124 then Some Or
    else None))))

abbrev pub bracket_opened : Option (List ℕ) → List ℕ → Lexeme × List ℕ
bracket_opened (Some rest) t = (OpenBracket true, rest)
bracket_opened None t = (OpenBracket false, t)

-- what follows an opening bracket
abbrev pub open_bracket : List ℕ → Lexeme × List ℕ
open_bracket t = bracket_opened (after 94 t) t

abbrev pub sign_or_character : Bool → ℕ → List ℕ → Option Lexeme → Read Lexeme
sign_or_character folds c t (Some lexeme) = Ok (lexeme, t)
sign_or_character folds c t None = character_and_rest (character folds c) t

-- a lexeme outside brackets and quotations
unfoldable pub plain : Flags → List ℕ → Read Lexeme
plain flags [] = Err Invalid
plain flags (c ∷ t) =
    if nat_eq c 92 then escaped flags.folds t
    else (if nat_eq c 40 then opening flags t
    else (if nat_eq c 91 then Ok (open_bracket t)
    else (if nat_eq c 42 then Ok (operator flags.lazy 0 None t)
    else (if nat_eq c 43 then Ok (operator flags.lazy 1 None t)
    else (if nat_eq c 63 then Ok (operator flags.lazy 0 (Some 1) t)
    else (if nat_eq c 123 then braces flags.lazy t
    else sign_or_character flags.folds c t (sign c)))))))

-- a lexeme of a quotation
unfoldable pub quoted : Bool → List ℕ → Read Lexeme
quoted folds [] = Err Invalid
quoted folds (c ∷ []) = character_and_rest (character folds c) []
quoted folds (c ∷ d ∷ t) =
    if nat_eq c 92 && nat_eq d 69 then Ok (Unquote, t)
    else character_and_rest (character folds c) (d ∷ t)

-- the lexeme at the front of a text
abbrev pub lexeme : Mode → Flags → List ℕ → Read Lexeme
lexeme Plain flags t = plain flags t
lexeme Quoted flags t = quoted flags.folds t
lexeme Bracket flags t = in_bracket flags.folds true t
lexeme Members flags t = in_bracket flags.folds false t

-- how the text after a lexeme is read
abbrev pub mode_after : Mode → Lexeme → Mode
mode_after mode Quote = Quoted
mode_after mode Unquote = Plain
mode_after mode (OpenBracket negated) = Bracket
mode_after mode CloseBracket = Plain
mode_after mode (Range first last) = Members
mode_after mode (Member class negated) = Members
mode_after mode _ = mode
