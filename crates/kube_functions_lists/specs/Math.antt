-- Trusted by the headline.
-- Functions on numbers (documentation of CEL-Go, "Math": `math.abs`, `math.sign`, `math.greatest`,
-- `math.least`). Ints and uints are compared as numbers; the first of equal ones is the result.
use Rattle.std.specs.Prelude.{ℕ, zero, suc, ℤ, pos, negsuc, List, [], ◌∷◌, codes, is_some, Ok, Err, if◌then◌else◌}
use Rattle.std.specs.List.{list_all}
use Rattle.cel_value.specs.Data.{Data, int, uint}
use Rattle.cel_value.specs.Faults.{Fault, no_overload, function_error}
use Rattle.cel_value.specs.Parts.{number_in}
use Rattle.cel_semantics.specs.Arithmetic.{is_int}
use Rattle.cel_semantics.specs.Outcome.{Outcome}
use Rattle.cel_stdlib.specs.Extremes.{extreme_of, values_among}
use Rattle.cel_stdlib.specs.declared.extremes.Extreme.{Extreme}
use Rattle.cel_stdlib.specs.declared.extremes.Extreme.TheVariants.{Least, Greatest}
use Rattle.std.specs.Int.RustNames.{unsigned_abs}

-- the absolute value of an int, or an overflow for the least int
abbrev pub size_of : ℤ → Outcome
size_of n =
    if is_int (pos (unsigned_abs n)) then Ok (int (pos (unsigned_abs n)))
    else Err (function_error (codes "math.abs") (codes "integer overflow"))

abbrev pub abs : Data → Outcome
abs (int n) = size_of n
abs (uint n) = Ok (uint n)
abs _ = Err (no_overload (codes "math.abs"))

abbrev pub int_sign : ℤ → ℤ
int_sign (pos zero) = pos 0
int_sign (pos (suc n)) = pos 1
int_sign (negsuc n) = negsuc 0

abbrev pub uint_sign : ℕ → ℕ
uint_sign zero = 0
uint_sign (suc n) = 1

abbrev pub sign : Data → Outcome
sign (int n) = Ok (int (int_sign n))
sign (uint n) = Ok (uint (uint_sign n))
sign _ = Err (no_overload (codes "math.sign"))

-- ---- the greatest and the least

abbrev pub call_name : Extreme → List ℕ
call_name Least = codes "math.least"
call_name Greatest = codes "math.greatest"

abbrev pub none_given : Extreme → Fault
none_given end = function_error (call_name end) (codes "at least one argument required")

abbrev pub not_numeric : Fault
not_numeric = function_error (codes "math.greatest/least") (codes "expected numeric argument")

-- a single value is returned unchecked
abbrev pub extreme_number : Extreme → List Data → Outcome
extreme_number end [] = Err (none_given end)
extreme_number end (d ∷ []) = Ok d
extreme_number end (d ∷ e ∷ ds) =
    if list_all (λ v. is_some (number_in v)) (d ∷ e ∷ ds) then extreme_of end (d ∷ e ∷ ds)
    else Err not_numeric

-- the greatest and the least of the arguments, or of the items of a single list
abbrev pub greatest : List Data → Outcome
greatest args = extreme_number Greatest (values_among args)

abbrev pub least : List Data → Outcome
least args = extreme_number Least (values_among args)
