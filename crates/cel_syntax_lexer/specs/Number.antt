-- Trusted by the headline.
-- The values of numbers. Source: the sections "Syntax" (INT_LIT, UINT_LIT, FLOAT_LIT,
-- EXPONENT) and "Values" of the CEL language definition.
use Rattle.std.specs.Prelude.{ℕ, ◌-◌, ◌^◌, ℤ, pos, neg_ℤ, nat_lt, nat_le, nat_eq, Bool, true, false, ◌&&◌, ◌||◌, if◌then◌else◌, List, [], ◌∷◌, length, take, drop, slice_index, Option, Some, None, option_map}
use Rattle.std.specs.List.{list_all, prefix_len}
use Rattle.std.specs.Option.{option_and_then}
use Rattle.std.specs.Char.{is_digit, is_ascii_digit}
use Rattle.std.specs.Str.Parse.{digits_value, without_leading_sign}
use Rattle.cel_value.specs.Data.{Data, int, uint, double}

-- ---- numerals

-- a digit in this radix; after 9 come the letters a to z or A to Z
unfoldable pub is_digit_in : ℕ → ℕ → Bool
is_digit_in radix c = is_digit c radix

-- one or more digits, and nothing else
unfoldable pub is_numeral : ℕ → List ℕ → Bool
is_numeral radix ds = nat_lt 0 (length ds) && list_all (is_digit_in radix) ds

-- the number that a numeral denotes
unfoldable pub numeral_value : ℕ → List ℕ → Option ℕ
numeral_value radix ds = if is_numeral radix ds then Some (digits_value radix ds) else None

-- the number, if it fits 64 bits
abbrev pub of_64_bits : ℕ → Option ℕ
of_64_bits n = if nat_lt n (2 ^ 64) then Some n else None

-- ---- ints and uints, by their absolute values

-- Hex digits follow 0x.
abbrev pub is_hexadecimal : List ℕ → Bool
is_hexadecimal s = nat_eq (slice_index s 0) 48 && nat_eq (slice_index s 1) 120

abbrev pub radix_of : List ℕ → ℕ
radix_of s = if is_hexadecimal s then 16 else 10

abbrev pub digits_of : List ℕ → List ℕ
digits_of s = if is_hexadecimal s then drop 2 s else s

unfoldable pub is_integer : List ℕ → Bool
is_integer s = is_numeral (radix_of s) (digits_of s)

unfoldable pub integer_value : List ℕ → Option ℕ
integer_value s = numeral_value (radix_of s) (digits_of s)

-- The suffix u makes a uint.
abbrev pub is_unsigned : List ℕ → Bool
is_unsigned s = nat_eq (slice_index s (length s - 1)) 117 || nat_eq (slice_index s (length s - 1)) 85

abbrev pub without_last : List ℕ → List ℕ
without_last s = take (length s - 1) s

-- an int has 64 bits, including the sign
unfoldable pub int_value : Bool → ℕ → Option ℤ
int_value true n = if nat_le n (2 ^ 63) then Some (neg_ℤ (pos n)) else None
int_value false n = if nat_lt n (2 ^ 63) then Some (pos n) else None

-- a uint has 64 bits and no minus
unfoldable pub uint_value : Bool → ℕ → Option ℕ
uint_value true n = None
uint_value false n = of_64_bits n

-- ---- doubles

abbrev pub digit_count : List ℕ → ℕ
digit_count s = prefix_len is_ascii_digit s

abbrev pub after_digits : List ℕ → List ℕ
after_digits s = drop (digit_count s) s

-- a letter e, an optional sign, and digits
unfoldable pub is_exponent : List ℕ → Bool
is_exponent [] = false
is_exponent (e ∷ s) = (nat_eq e 101 || nat_eq e 69) && is_numeral 10 (without_leading_sign s)

-- what follows a point: digits, and an optional exponent
unfoldable pub is_fraction : List ℕ → Bool
is_fraction s =
    nat_lt 0 (digit_count s) && (nat_eq (length (after_digits s)) 0 || is_exponent (after_digits s))

-- Digits before the point are optional. Without a point there have to be digits and an exponent.
unfoldable pub is_double : List ℕ → Bool
is_double s =
    if nat_eq (slice_index (after_digits s) 0) 46 then is_fraction (drop 1 (after_digits s))
    else (nat_lt 0 (digit_count s) && is_exponent (after_digits s))

-- ---- numbers

-- An int and a double take a minus, a uint doesn't.
unfoldable pub goes_with_minus : List ℕ → Bool
goes_with_minus s = is_double s || is_integer s

-- the value of a number, with or without a minus before it; a double has no number
unfoldable pub number_value : Bool → List ℕ → Option Data
number_value negative s =
    if is_double s then Some double
    else (if is_unsigned s
    then option_map uint (option_and_then (uint_value negative) (integer_value (without_last s)))
    else option_map int (option_and_then (int_value negative) (integer_value s)))
