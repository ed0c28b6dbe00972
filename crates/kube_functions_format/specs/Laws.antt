-- Trusted by laws alone.
-- Theorems about the definitions.
use Rattle.std.specs.Prelude.{◌≡◌, ◌≢◌, ℕ, ◌<◌, ◌≤◌, ◌^◌, List, [], ◌∷◌, ◌++◌, codes, Contains, Ok}
use Rattle.std.specs.Char.{digit_value}
use Rattle.std.specs.Str.{chars, IsUtf8}
use Rattle.std.specs.Str.Parse.{IsNumeral, digits_value}
use Rattle.cel_value.specs.Data.{Data, text, list, Items, item, no_items}
use Rattle.cel_value.specs.Texts.{printed_text}
use Rattle.kube_functions_format.specs.Formatted.{as_string, format_of}
use Rattle.kube_functions_format.specs.Pieces.{Piece, literal, verb, pieces}
use Rattle.kube_functions_format.specs.Verbs.{or_refused}

-- characters that spell a piece of a format string
pub data Spells : Piece → List ℕ → Type 0 where
  -- a character other than a percent sign spells itself
  itself : (c : ℕ) → c ≢ 37 → Spells (literal c) (c ∷ [])
  -- two percent signs spell one
  percent : Spells (literal 37) (37 ∷ 37 ∷ [])
  -- a percent sign and a letter
  bare : (c : ℕ) → c ≢ 37 → c ≢ 46 → Spells (verb c) (37 ∷ c ∷ [])
  -- a percent sign, a dot, decimal digits of a number of 64 bits, and a letter that isn't a digit
  precise : (ds : List ℕ) (c : ℕ) → IsNumeral 10 ds → digits_value 10 ds < 2 ^ 64 → 10 ≤ digit_value c
      → Spells (verb c) (37 ∷ 46 ∷ (ds ++ c ∷ []))

-- each spelling of a piece is read as that piece, whatever follows it
abbrev pub SpelledPiecesAreRead : Type 0
SpelledPiecesAreRead = (p : Piece) (s cs : List ℕ) → Spells p s → pieces (s ++ cs) ≡ p ∷ pieces cs

-- a format string without a percent sign is returned unchanged, for any list
abbrev pub PlainTextStands : Type 0
PlainTextStands = (s : List ℕ) (ds : Items) → IsUtf8 s → ¬ Contains (chars s) 37
    → format_of (text s) (list ds) ≡ Ok (text s)

-- `%s` alone prints the text of a value, or is an error that names the kind without one
abbrev pub OneValueIsPrinted : Type 0
OneValueIsPrinted = (d : Data) → format_of (text (codes "%s")) (list (item d no_items))
    ≡ as_string (or_refused (codes "%s does not support ") (printed_text d))
