-- Trusted by the headline.
-- Strings with certain characters escaped: `jsonpatch.escapeKey` (RFC 6901, section 3) and
-- `strings.quote` (documentation of CEL-Go, "Strings").
use Rattle.std.specs.Prelude.{◌≡◌, ℕ, List, [], ◌∷◌, ◌++◌, ◌==◌, codes, Option, encode_utf8}
use Rattle.std.specs.List.{flat_map}
use Rattle.std.specs.Map.{lookup}
use Rattle.std.specs.Option.{unwrap_or}
use Rattle.std.specs.Str.{chars, IsUtf8}
use Rattle.cel_value.specs.Data.{Data}
use Rattle.cel_semantics.specs.Outcome.{Outcome}
use Rattle.kube_functions_strings.specs.Letters.{text_outcome}
use Rattle.kube_functions_strings.specs.declared.quoting.Escaping.{Escaping}
use Rattle.kube_functions_strings.specs.declared.quoting.Escaping.TheVariants.{Pointer, Quoted}

-- the escape of a character, or none if it isn't escaped
abbrev pub escape_of : Escaping → ℕ → Option (List ℕ)
escape_of Pointer c = lookup (λ d. c == d) (
    (126, codes "~0")
    ∷ (47, codes "~1")
    ∷ [])
escape_of Quoted c = lookup (λ d. c == d) (
    (34, codes "\\\"")
    ∷ (92, codes "\\\\")
    ∷ (7, codes "\\a")
    ∷ (8, codes "\\b")
    ∷ (12, codes "\\f")
    ∷ (10, codes "\\n")
    ∷ (13, codes "\\r")
    ∷ (9, codes "\\t")
    ∷ (11, codes "\\v")
    ∷ [])

-- the character's escape, or else the character itself in UTF-8
abbrev pub escaped_character : Escaping → ℕ → List ℕ
escaped_character form c = unwrap_or (escape_of form c) (encode_utf8 c)

-- the text with each character escaped
abbrev pub escaped_text : Escaping → List ℕ → List ℕ
escaped_text form s = flat_map (escaped_character form) (chars s)

abbrev pub escaped_key : Data → Outcome
escaped_key = text_outcome (codes "jsonpatch.escapeKey") (escaped_text Pointer)

-- texts with the same escaped key are the same
abbrev pub KeysDiffer : Type 0
KeysDiffer = (s t : List ℕ) → IsUtf8 s → IsUtf8 t → escaped_text Pointer s ≡ escaped_text Pointer t → s ≡ t

-- the escaped text in quotation marks
abbrev pub quoted_text : List ℕ → List ℕ
quoted_text s = 34 ∷ (escaped_text Quoted s ++ 34 ∷ [])

abbrev pub quote : Data → Outcome
quote = text_outcome (codes "strings.quote") quoted_text
