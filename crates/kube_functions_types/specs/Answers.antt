-- Trusted by the headline.
-- Answers that several functions return.
use Rattle.std.specs.Prelude.{ℕ, List, Bool, Option, Result, Ok, Err}
use Rattle.std.specs.Option.{option_map_or}
use Rattle.cel_value.specs.Data.{Data, bool}
use Rattle.cel_value.specs.Faults.{no_overload, function_error}
use Rattle.cel_semantics.specs.Outcome.{Outcome}

-- the error of a function that rejects its arguments, with its message
abbrev pub refusal : List ℕ → List ℕ → Outcome
refusal name message = Err (function_error name message)

-- the error of a function that doesn't take values of these kinds
abbrev pub wrong_kind : List ℕ → Outcome
wrong_kind name = Err (no_overload name)

-- a bool as an answer
abbrev pub bool_answer : Bool → Outcome
bool_answer b = Ok (bool b)

-- the value, or the given outcome if there is none
abbrev pub value_or : {A : Type 0} → Outcome → (A → Data) → Option A → Outcome
value_or fault f o = option_map_or (λ x. Ok (f x)) o fault

-- the value that was read, or the named function's error with the reason why nothing was
abbrev pub value_or_why : {A : Type 0} → List ℕ → (A → Data) → Result A (List ℕ) → Outcome
value_or_why name f (Ok x) = Ok (f x)
value_or_why name f (Err message) = refusal name message
