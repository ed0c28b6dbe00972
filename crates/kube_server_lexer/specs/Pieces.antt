-- Trusted by laws alone.
-- The pieces that a text splits into: tokens, and white space and comments between them. Source:
-- section "Syntax" of the CEL language definition.
use Rattle.std.specs.Prelude.{◌≡◌, ◌⊎◌, ℕ, Bool, true, false, List, [], ◌∷◌}
use Rattle.std.specs.List.{prefix_len}
use Rattle.cel_syntax_lexer.specs.Token.{Token, token_of}
use Rattle.cel_syntax_lexer.specs.Tokens.{is_white_space, is_in_line, begins_comment, Longest}
use Rattle.kube_server_lexer.specs.declared.lexer.Piece.{Piece}
use Rattle.kube_server_lexer.specs.declared.lexer.Piece.TheVariants.{Blank, Of, Unknown}

-- the text begins with white space
abbrev pub begins_white : List ℕ → Bool
begins_white [] = false
begins_white (b ∷ z) = is_white_space b

-- Neither a comment nor white space is at the front.
abbrev pub IsInk : List ℕ → Type 0
IsInk z = (begins_comment z ≡ false) × (begins_white z ≡ false)

abbrev pub NoToken : List ℕ → Type 0
NoToken z = (n : ℕ) (t : Token) → Longest z n t → ⊥

-- the piece at the front of a text
abbrev pub IsFirst : List ℕ → Piece → Type 0
IsFirst z (Blank n) = ((begins_comment z ≡ true) × (n ≡ prefix_len is_in_line z)) ⊎ ((begins_white z ≡ true) × (n ≡ 1))
IsFirst z (Of t n) = IsInk z × Longest z n (token_of t)
IsFirst z Unknown = IsInk z × NoToken z
