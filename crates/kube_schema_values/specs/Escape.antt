-- Trusted by the headline.
-- How a field name is escaped so that CEL can select it: Kubernetes documentation, "Use CEL
-- validation rules", escaping of property names, except that a single underscore stays.
use Rattle.std.specs.Prelude.{ℕ, List, [], ◌∷◌, ◌++◌, Bool, ◌==◌, ◌&&◌, if◌then◌else◌, codes}
use Rattle.std.specs.Char.{encode_utf8}
use Rattle.std.specs.List.{list_any}
use Rattle.std.specs.Str.{bytes_eq}

-- the reserved words of CEL (CEL language definition, "Syntax")
abbrev pub reserved_words : List (List ℕ)
reserved_words = codes "true" ∷ codes "false" ∷ codes "null" ∷ codes "in" ∷ codes "as" ∷ codes "break"
    ∷ codes "const" ∷ codes "continue" ∷ codes "else" ∷ codes "for" ∷ codes "function" ∷ codes "if"
    ∷ codes "import" ∷ codes "let" ∷ codes "loop" ∷ codes "package" ∷ codes "namespace" ∷ codes "return"
    ∷ codes "var" ∷ codes "void" ∷ codes "while" ∷ []

unfoldable pub is_reserved : List ℕ → Bool
is_reserved s = list_any (bytes_eq s) reserved_words

-- a word between double underscores
abbrev pub between_underscores : List ℕ → List ℕ
between_underscores s = codes "__" ++ (s ++ codes "__")

-- the escape of one byte that isn't the first of a pair
-- of underscores: a dot, a dash, a slash, or another
abbrev pub escaped_byte : ℕ → List ℕ
escaped_byte b =
    if b == 46 then codes "__dot__"
    else (if b == 45 then codes "__dash__"
    else (if b == 47 then codes "__slash__"
    else b ∷ []))

-- the escape of a text that isn't a reserved word: pairs of
-- underscores, taken from the left, then the other bytes
unfoldable pub escaped_text : List ℕ → List ℕ
escaped_text [] = []
escaped_text (b ∷ []) = escaped_byte b
escaped_text (b ∷ c ∷ rest) =
    if b == 95 && c == 95 then codes "__underscores__" ++ escaped_text rest
    else escaped_byte b ++ escaped_text (c ∷ rest)

unfoldable pub escape : List ℕ → List ℕ
escape s = if is_reserved s then between_underscores s else escaped_text s

-- ---- the parts, for private clauses

-- the escape of a character that isn't the first of a pair of underscores
unfoldable pub escaped_character : ℕ → List ℕ
escaped_character c =
    if c == 46 then codes "__dot__"
    else (if c == 45 then codes "__dash__"
    else (if c == 47 then codes "__slash__"
    else encode_utf8 c))

-- an underscore that is held back and not yet written
abbrev pub held_text : Bool → List ℕ
held_text holds = if holds then 95 ∷ [] else []
