-- Trusted by the headline.
-- The text of a quantity: a sign, digits with at most one point, and a suffix.
-- Source: the grammar in the documentation of `Quantity`, `k8s.io/apimachinery/pkg/api/resource` of
-- Kubernetes: <quantity> ::= <signedNumber><suffix>, <number> ::= <digits> | <digits>.<digits> |
-- <digits>. | .<digits>, <suffix> ::= <binarySI> | <decimalExponent> | <decimalSI>.
use Rattle.std.specs.Prelude.{◌+◌, ◌*◌, ◌^◌, ◌==◌, ◌&&◌, ◌||◌, Bool, ℕ, ℤ, pos, negsuc, ◌-ℤ◌, nat_lt, List, [], ◌++◌, length, drop, slice_index, Option, Some, None, option_and_then, if◌then◌else◌}
use Rattle.std.specs.Char.{is_ascii_digit}
use Rattle.std.specs.List.{take_while, prefix_len}
use Rattle.std.specs.Option.{option_map}
use Rattle.std.specs.Str.{trim}
use Rattle.std.specs.Str.Parse.{starts_with_minus, without_leading_sign, digits_value}
use Rattle.kube_types.specs.Quantity.Decimal.{Decimal, with_sign}
use Rattle.kube_types.specs.Quantity.Normal.{fits, quantity_holding}
use Rattle.kube_types.specs.Quantity.Sums.{decimal_at}
use Rattle.kube_types.specs.declared.quantities.reading.Factor.{Factor}

-- the digits that a text starts with, and the rest
abbrev pub leading_digits : List ℕ → List ℕ
leading_digits text = take_while is_ascii_digit text

abbrev pub after_digits : List ℕ → List ℕ
after_digits text = drop (prefix_len is_ascii_digit text) text

-- a point, `.`, follows the digits that a text starts with
abbrev pub has_point : List ℕ → Bool
has_point text = slice_index (after_digits text) 0 == 46

abbrev pub after_point : List ℕ → List ℕ
after_point text = drop 1 (after_digits text)

-- the digits after the point
unfoldable pub fraction_digits : List ℕ → List ℕ
fraction_digits text = if has_point text then leading_digits (after_point text) else []

-- the text after the digits and the point
unfoldable pub suffix_of : List ℕ → List ℕ
suffix_of text = if has_point text then after_digits (after_point text) else after_digits text

-- A factor: 10 to the `tens`, times the whole number `times`.
abbrev pub power_of_ten : ℤ → Factor
power_of_ten z = record { tens = z; times = 1 }

abbrev pub whole_factor : ℕ → Factor
whole_factor n = record { tens = pos 0; times = n }

-- <decimalSI>, by the byte of its letter: n (110), u (117), m (109), k (107), M (77),
-- G (71), T (84), P (80), E (69)
unfoldable pub decimal_suffix : ℕ → Option ℤ
decimal_suffix c =
    if c == 110 then Some (negsuc 8)
    else (if c == 117 then Some (negsuc 5)
    else (if c == 109 then Some (negsuc 2)
    else (if c == 107 then Some (pos 3)
    else (if c == 77 then Some (pos 6)
    else (if c == 71 then Some (pos 9)
    else (if c == 84 then Some (pos 12)
    else (if c == 80 then Some (pos 15)
    else (if c == 69 then Some (pos 18)
    else None))))))))

-- <binarySI>, by the byte of its first letter: Ki (75), Mi (77), Gi (71), Ti (84), Pi (80), Ei (69)
unfoldable pub binary_suffix : ℕ → Option ℕ
binary_suffix c =
    if c == 75 then Some (2 ^ 10)
    else (if c == 77 then Some (2 ^ 20)
    else (if c == 71 then Some (2 ^ 30)
    else (if c == 84 then Some (2 ^ 40)
    else (if c == 80 then Some (2 ^ 50)
    else (if c == 69 then Some (2 ^ 60)
    else None)))))

-- The exponent that an optional sign and digits spell, or none if it doesn't fit in 32 bits.
unfoldable pub exponent_of : List ℕ → Option ℤ
exponent_of text = let digits = leading_digits (without_leading_sign text) in
    if (length digits == 0) || (nat_lt 0 (length (after_digits (without_leading_sign text)))) then None
    else (if fits 31 (with_sign (starts_with_minus text) (digits_value 10 digits))
    then Some (with_sign (starts_with_minus text) (digits_value 10 digits))
    else None)

-- The factor of a suffix, which is nothing, a letter of <decimalSI>, two letters of <binarySI> that
-- end in `i` (105), or `e` (101) or `E` (69) and an exponent.
unfoldable pub factor_of : List ℕ → Option Factor
factor_of suffix =
    if length suffix == 0 then Some (power_of_ten (pos 0))
    else (if length suffix == 1 then option_map power_of_ten (decimal_suffix (slice_index suffix 0))
    else (if (length suffix == 2) && (slice_index suffix 1 == 105)
    then option_map whole_factor (binary_suffix (slice_index suffix 0))
    else (if (slice_index suffix 0 == 101) || (slice_index suffix 0 == 69)
    then option_map power_of_ten (exponent_of (drop 1 suffix))
    else None)))

-- The number with these digits, the last `places` of them after the point, times the factor. The
-- digits times the whole number of the factor, and so the digits alone, have to be below 2 to the
-- 127, so that a signed integer of 128 bits can hold them before the sign is applied.
unfoldable pub value_of : Bool → List ℕ → ℕ → Factor → Option Decimal
value_of negative digits places factor =
    if nat_lt (digits_value 10 digits * factor.times) (2 ^ 127)
    then quantity_holding
    (decimal_at (with_sign negative (digits_value 10 digits * factor.times)) (factor.tens -ℤ pos places))
    else None

-- the quantity of a text with its sign removed: at least one digit, at most one point, and a suffix
unfoldable pub unsigned_quantity : Bool → List ℕ → Option Decimal
unsigned_quantity negative text =
    if length (leading_digits text) + length (fraction_digits text) == 0 then None
    else option_and_then
    (value_of negative (leading_digits text ++ fraction_digits text) (length (fraction_digits text)))
    (factor_of (suffix_of text))

-- The quantity that a text parses to, as a number in normal
-- form, if it parses. White space at both ends is ignored.
unfoldable pub quantity_of : List ℕ → Option Decimal
quantity_of text = unsigned_quantity (starts_with_minus (trim text)) (without_leading_sign (trim text))
