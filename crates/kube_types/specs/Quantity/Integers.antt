-- Trusted by the headline.
-- Quantities as integers.
use Rattle.std.specs.Prelude.{ℕ, List, codes, ℤ, Result, Ok, Err, if◌then◌else◌}
use Rattle.std.specs.Int.{is_negative}
use Rattle.kube_types.specs.Quantity.Decimal.{Decimal, natural, times_ten_to}
use Rattle.kube_types.specs.Quantity.Normal.{fits}
use Rattle.kube_types.specs.declared.quantities.integer.IntegerError.{IntegerError}
use Rattle.kube_types.specs.declared.quantities.integer.IntegerError.TheVariants.{NotAnInteger, TooLargeForInteger}

-- A number in normal form is an integer exactly if its scale
-- isn't negative. It is an error if it doesn't fit in 64 bits.
unfoldable pub integer_of : Decimal → Result ℤ IntegerError
integer_of x =
    if is_negative x.scale then Err NotAnInteger
    else (if fits 63 (times_ten_to x.mantissa (natural x.scale))
    then Ok (times_ten_to x.mantissa (natural x.scale))
    else Err TooLargeForInteger)

-- the message of each error
abbrev pub integer_error_text : IntegerError → List ℕ
integer_error_text NotAnInteger = codes "quantity is not an integer"
integer_error_text TooLargeForInteger = codes "quantity too large for integer"
