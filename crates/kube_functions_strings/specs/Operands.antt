-- Trusted by the headline.
-- The operands of a function by their kinds, and the error if they are of other kinds.
use Rattle.std.specs.Prelude.{ℕ, ℤ, List, Option, Some, None, Err, option_map}
use Rattle.std.specs.Option.{option_map_or, option_zip}
use Rattle.cel_value.specs.Data.{Data}
use Rattle.cel_value.specs.Faults.{no_overload}
use Rattle.cel_value.specs.Parts.{int_in, text_in}
use Rattle.cel_semantics.specs.Outcome.{Outcome}

-- the texts of two strings, or none if either value isn't a string
abbrev pub texts_in : Data → Data → Option (List ℕ × List ℕ)
texts_in v w = option_zip (text_in v) (text_in w)

-- a string's text and an int
abbrev pub text_and_int_in : Data → Data → Option (List ℕ × ℤ)
text_and_int_in v w = option_zip (text_in v) (int_in w)

-- the int of an optional argument: `Some None` if the argument is absent, none if it isn't an int
abbrev pub optional_int_in : Option Data → Option (Option ℤ)
optional_int_in None = Some None
optional_int_in (Some v) = option_map Some (int_in v)

-- the result of `f` on the operands, or the error `no_overload` if their kinds are wrong
abbrev pub answer_with : {A : Type 0} → List ℕ → (A → Outcome) → Option A → Outcome
answer_with name f o = option_map_or f o (Err (no_overload name))
