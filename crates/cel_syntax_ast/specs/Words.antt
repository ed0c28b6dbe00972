-- Trusted by the headline.
-- The words that are names. Source: section "Syntax" of the CEL
-- language definition (IDENT, SELECTOR, RESERVED).
use Rattle.std.specs.Prelude.{ℕ, List, [], ◌∷◌, Bool, not, ◌&&◌, codes}
use Rattle.std.specs.List.{list_any}
use Rattle.std.specs.Str.{bytes_eq, is_utf8}

-- the words that denote values, and `in`, the operator that is a word
unfoldable pub is_literal : List ℕ → Bool
is_literal w = list_any (bytes_eq w) (codes "true" ∷ codes "false" ∷ codes "null" ∷ codes "in" ∷ [])

-- The other reserved words, which the definition reserves for host languages.
unfoldable pub is_reserved : List ℕ → Bool
is_reserved w = list_any (bytes_eq w) (codes "break" ∷ codes "continue" ∷ codes "for" ∷ codes "loop"
    ∷ codes "while" ∷ codes "else" ∷ codes "function" ∷ codes "if" ∷ codes "return" ∷ codes "const"
    ∷ codes "let" ∷ codes "var" ∷ codes "void" ∷ codes "as" ∷ codes "import" ∷ codes "namespace"
    ∷ codes "package" ∷ [])

-- A selected field may have any name except those of literals. (A
-- word consists of ASCII letters, so it is UTF-8.)
unfoldable pub is_selector : List ℕ → Bool
is_selector w = is_utf8 w && not (is_literal w)

-- An identifier is not a reserved word.
unfoldable pub is_identifier : List ℕ → Bool
is_identifier w = is_selector w && not (is_reserved w)
