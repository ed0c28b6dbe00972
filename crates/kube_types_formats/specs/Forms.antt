-- Trusted by the headline.
-- Texts of a fixed form, byte by byte.
use Rattle.std.specs.Prelude.{ℕ, ◌+◌, ◌-◌, ◌*◌, ◌==◌, Bool, List, slice_index, if◌then◌else◌}
use Rattle.std.specs.Char.{is_ascii_digit, is_ascii_hexdigit}
use Rattle.std.specs.Cmp.Lexicographic.{pointwise}

-- the byte fits the mark: `d` (100) stands for a decimal digit, `x` (120) for a hexadecimal digit
-- of either case, any other mark for itself
unfoldable pub fits_mark : ℕ → ℕ → Bool
fits_mark mark c =
    if mark == 100 then is_ascii_digit c else (if mark == 120 then is_ascii_hexdigit c else mark == c)

-- the text has the form: the same length, and each byte fits its mark
abbrev pub fits : List ℕ → List ℕ → Bool
fits form text = pointwise fits_mark form text

-- the value of the two decimal digits at this offset
abbrev pub two_digits : List ℕ → ℕ → ℕ
two_digits text byte_offset =
    (slice_index text byte_offset - 48) * 10 + (slice_index text (byte_offset + 1) - 48)
