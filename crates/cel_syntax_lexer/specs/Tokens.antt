-- Trusted by the headline.
-- The tokens that a text splits into, by the sections
-- "Syntax" and "Values" of the CEL language definition.
use Rattle.std.specs.Prelude.{◌≡◌, ℕ, ◌<◌, ◌≤◌, Bool, false, true, not, ◌&&◌, ◌||◌, if◌then◌else◌, nat_eq, List, [], ◌∷◌, length, take, drop, Option, Some, None, option_map}
use Rattle.std.specs.List.{list_all, prefix_len}
use Rattle.std.specs.Char.{is_ascii_alphabetic, is_ascii_digit}
use Rattle.cel_syntax_lexer.specs.declared.punctuator.Punctuator.{Punctuator}
use Rattle.cel_syntax_lexer.specs.declared.punctuator.Punctuator.TheVariants as m
use Rattle.cel_syntax_lexer.specs.Token.{Token, word, number, quoted, punctuator}
use Rattle.cel_syntax_lexer.specs.Numbers.{is_number}
use Rattle.cel_syntax_lexer.specs.Strings.{is_quote, is_string, is_prefixed}

-- ---- classes of bytes

-- a letter or an underscore
abbrev pub is_letter : ℕ → Bool
is_letter b = is_ascii_alphabetic b || nat_eq b 95

abbrev pub is_word_byte : ℕ → Bool
is_word_byte b = is_letter b || is_ascii_digit b

-- tab, newline, form feed, carriage return, space
abbrev pub is_white_space : ℕ → Bool
is_white_space b = nat_eq b 9 || nat_eq b 10 || nat_eq b 12 || nat_eq b 13 || nat_eq b 32

-- any byte but a newline; only a newline ends a line
abbrev pub is_in_line : ℕ → Bool
is_in_line b = not (nat_eq b 10)

-- ---- punctuators

unfoldable pub one_byte : ℕ → Option Punctuator
one_byte b =
    if nat_eq b 40 then Some m.OpenRound
    else (if nat_eq b 41 then Some m.CloseRound
    else (if nat_eq b 91 then Some m.OpenSquare
    else (if nat_eq b 93 then Some m.CloseSquare
    else (if nat_eq b 123 then Some m.OpenBrace
    else (if nat_eq b 125 then Some m.CloseBrace
    else (if nat_eq b 44 then Some m.Comma
    else (if nat_eq b 46 then Some m.Dot
    else (if nat_eq b 58 then Some m.Colon
    else (if nat_eq b 63 then Some m.Question
    else (if nat_eq b 33 then Some m.Not
    else (if nat_eq b 45 then Some m.Minus
    else (if nat_eq b 43 then Some m.Plus
    else (if nat_eq b 42 then Some m.Star
    else (if nat_eq b 47 then Some m.Slash
    else (if nat_eq b 37 then Some m.Percent
    else (if nat_eq b 60 then Some m.Less
    else (if nat_eq b 62 then Some m.Greater else None)))))))))))))))))

unfoldable pub two_bytes : ℕ → ℕ → Option Punctuator
two_bytes b c =
    if nat_eq b 60 && nat_eq c 61 then Some m.LessOrEqual
    else (if nat_eq b 62 && nat_eq c 61 then Some m.GreaterOrEqual
    else (if nat_eq b 61 && nat_eq c 61 then Some m.Equal
    else (if nat_eq b 33 && nat_eq c 61 then Some m.NotEqual
    else (if nat_eq b 38 && nat_eq c 38 then Some m.And
    else (if nat_eq b 124 && nat_eq c 124 then Some m.Or else None)))))

abbrev pub two_at_front : List ℕ → Option Punctuator
two_at_front [] = None
two_at_front (b ∷ []) = None
two_at_front (b ∷ c ∷ z) = two_bytes b c

-- the punctuator that these bytes make up
abbrev pub punctuator_of : ℕ → List ℕ → Option Punctuator
punctuator_of b [] = one_byte b
punctuator_of b (c ∷ []) = two_bytes b c
punctuator_of b (c ∷ d ∷ z) = None

-- ---- tokens

-- the token that these bytes make up
unfoldable pub token_of_bytes : List ℕ → Option Token
token_of_bytes [] = None
token_of_bytes (b ∷ z) =
    if is_letter b
    then (if list_all is_word_byte z then Some (word (b ∷ z))
    else (if is_prefixed (b ∷ z) then Some (quoted (b ∷ z)) else None))
    else (if is_quote b then (if is_string false (b ∷ z) then Some (quoted (b ∷ z)) else None)
    else (if is_number (b ∷ z) then Some (number (b ∷ z))
    else option_map punctuator (punctuator_of b z)))

-- The first n bytes are this token, and no longer prefix is one.
pub record Longest (z : List ℕ) (n : ℕ) (t : Token) : Type 0 where
  pub within : n ≤ length z
  pub token : token_of_bytes (take n z) ≡ Some t
  pub longest : (k : ℕ) → n < k → k ≤ length z → token_of_bytes (take k z) ≡ None

-- two slashes; they are never a division
abbrev pub begins_comment : List ℕ → Bool
begins_comment [] = false
begins_comment (b ∷ []) = false
begins_comment (b ∷ c ∷ z) = nat_eq b 47 && nat_eq c 47

-- The text splits into these tokens, with white space and comments between them.
pub data Cuts : List ℕ → List Token → Type 0 where
  done : Cuts [] []
  space : {b : ℕ} {z : List ℕ} {ts : List Token} → is_white_space b ≡ true → Cuts z ts → Cuts (b ∷ z) ts
  comment : {z : List ℕ} {ts : List Token}
      → begins_comment z ≡ true → Cuts (drop (prefix_len is_in_line z) z) ts → Cuts z ts
  token : {z : List ℕ} {n : ℕ} {t : Token} {ts : List Token}
      → begins_comment z ≡ false → Longest z n t → Cuts (drop n z) ts → Cuts z (t ∷ ts)

-- into these tokens and no others
abbrev pub CutsInto : List ℕ → List Token → Type 0
CutsInto z ts = Cuts z ts × ((us : List Token) → Cuts z us → us ≡ ts)

abbrev pub CutsIntoNone : List ℕ → Type 0
CutsIntoNone z = (us : List Token) → Cuts z us → ⊥
