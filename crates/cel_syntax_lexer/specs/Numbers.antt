-- Trusted by the headline.
-- The spelling of numbers. A minus before a number is a punctuator. Source: INT_LIT, UINT_LIT,
-- FLOAT_LIT, DIGIT, HEXDIGIT and EXPONENT in the section "Syntax" of the CEL language definition.
use Rattle.std.specs.Prelude.{ℕ, Bool, ◌||◌, List}
use Rattle.std.specs.Char.{is_ascii_digit, is_ascii_hexdigit}
use Rattle.cel_syntax_lexer.specs.Spelling.{is_end, is_byte, is_either, one_then, some_then}

abbrev pub is_digits : List ℕ → Bool
is_digits z = some_then is_ascii_digit is_end z

-- `+` or `-`, then digits
abbrev pub is_signed : List ℕ → Bool
is_signed z = one_then (is_either 43 45) is_digits z

-- digits with an optional sign
abbrev pub is_power : List ℕ → Bool
is_power z = is_digits z || is_signed z

-- `e` or `E`, then a power
unfoldable pub is_exponent : List ℕ → Bool
is_exponent z = one_then (is_either 101 69) is_power z

abbrev pub is_end_or_exponent : List ℕ → Bool
is_end_or_exponent z = is_end z || is_exponent z

-- digits, and an optional exponent
abbrev pub is_after_dot : List ℕ → Bool
is_after_dot z = some_then is_ascii_digit is_end_or_exponent z

-- `.`, digits, and an optional exponent
unfoldable pub is_fraction : List ℕ → Bool
is_fraction z = one_then (is_byte 46) is_after_dot z

-- nothing, or the suffix `u` or `U` of a uint
unfoldable pub is_end_or_suffix : List ℕ → Bool
is_end_or_suffix z = is_end z || one_then (is_either 117 85) is_end z

abbrev pub is_after_x : List ℕ → Bool
is_after_x z = some_then is_ascii_hexdigit is_end_or_suffix z

abbrev pub is_after_zero : List ℕ → Bool
is_after_zero z = one_then (is_byte 120) is_after_x z

-- `0x`, hexadecimal digits, and an optional suffix of a uint
unfoldable pub is_hexadecimal : List ℕ → Bool
is_hexadecimal z = one_then (is_byte 48) is_after_zero z

-- what may follow the first digits: nothing, the suffix of a uint, a fraction or an exponent
unfoldable pub is_after_digits : List ℕ → Bool
is_after_digits z = is_end_or_suffix z || is_fraction z || is_exponent z

unfoldable pub is_decimal : List ℕ → Bool
is_decimal z = some_then is_ascii_digit is_after_digits z

unfoldable pub is_number : List ℕ → Bool
is_number z = is_hexadecimal z || is_fraction z || is_decimal z
