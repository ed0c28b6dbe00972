-- Trusted by the headline.
-- A format string as pieces (documentation of CEL-Go, "Strings": `format`; Kubernetes
-- documentation, "CEL in Kubernetes", extended string library). A percent sign begins a verb, whose
-- letter follows either at once or after a dot and digits, a precision that has no effect. Two
-- percent signs print one. Every other character stands for itself.
use Rattle.std.specs.Prelude.{ℕ, ◌+◌, ◌*◌, ◌^◌, ◌==◌, nat_lt, Bool, false, List, [], ◌∷◌, codes, Option, Some, None, if◌then◌else◌}
use Rattle.std.specs.Char.{digit_value, is_digit}
use Rattle.std.specs.Option.{unwrap_or, option_map_or}

pub data Piece : Type 0 where
  -- a character that stands for itself
  literal : ℕ → Piece
  -- a verb, by its letter
  verb : ℕ → Piece
  -- an error in the format string, as its message
  broken : List ℕ → Piece

-- the number read so far, or 0 if there is none, with one more digit
abbrev pub with_digit : Option ℕ → ℕ → ℕ
with_digit n d = unwrap_or n 0 * 10 + d

-- there is a digit, and the number fits in 64 bits
abbrev pub is_precision : Option ℕ → Bool
is_precision n = option_map_or (λ m. nat_lt m (2 ^ 64)) n false

abbrev pub ends_in_percent : Piece
ends_in_percent = broken (codes "format string ends with '%'")

abbrev pub ends_in_precision : Piece
ends_in_precision = broken (codes "format string ends after precision")

abbrev pub no_precision : Piece
no_precision = broken (codes "invalid precision in format string")

abbrev mutual
  pub pieces : List ℕ → List Piece
  pieces [] = []
  pieces (c ∷ cs) = if c == 37 then behind_percent cs else literal c ∷ pieces cs

  pub behind_percent : List ℕ → List Piece
  behind_percent [] = ends_in_percent ∷ []
  behind_percent (c ∷ cs) =
      if c == 37 then literal 37 ∷ pieces cs
      else if c == 46 then behind_digits None cs
      else verb c ∷ pieces cs

  -- after a percent sign, a dot, and the digits of this number, if any
  pub behind_digits : Option ℕ → List ℕ → List Piece
  behind_digits n [] = (if is_precision n then ends_in_precision else no_precision) ∷ []
  behind_digits n (c ∷ cs) =
      if is_digit c 10 then behind_digits (Some (with_digit n (digit_value c))) cs
      else if is_precision n then verb c ∷ pieces cs
      else no_precision ∷ []
