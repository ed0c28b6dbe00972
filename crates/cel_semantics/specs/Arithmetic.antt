-- Trusted by the headline.
-- Sums, differences, products, quotients and remainders of values without doubles
-- (CEL language definition, "Arithmetic", "Overflow" and "List of Standard
-- Definitions"). A result out of its kind's range is an overflow. A quotient is
-- truncated towards zero, and a remainder has the dividend's sign.
use Rattle.std.specs.Prelude.{ℕ, ◌+◌, ◌*◌, ◌^◌, ◌/◌, ◌%◌, ◌-◌, ◌++◌, ℤ, pos, negsuc, ◌+ℤ◌, ◌-ℤ◌, ◌*ℤ◌, neg_ℤ, codes, Bool, ◌&&◌, nat_lt, nat_eq, int_le, Option, Ok, Err, if◌then◌else◌}
use Rattle.std.specs.Option.{option_map_or}
use Rattle.std.specs.Int.RustNames.{int_div, int_rem, unsigned_abs}
use Rattle.cel_value.specs.Data.{Data, int, uint, text, bytes, list, timestamp, duration, Items, no_items, item}
use Rattle.cel_value.specs.Faults.{overflow, no_overload, division_by_zero, remainder_by_zero}
use Rattle.cel_value.specs.Ranges.{local_nanosecond}
use Rattle.cel_semantics.specs.Outcome.{Outcome}

-- the range of an int: from -2^63 to 2^63 - 1
abbrev pub is_int : ℤ → Bool
is_int (pos n) = nat_lt n (2 ^ 63)
is_int (negsuc n) = nat_lt n (2 ^ 63)

-- the value of a number, or an overflow if it is None
abbrev pub or_overflow : {A : Type 0} → (A → Data) → Option A → Outcome
or_overflow f o = option_map_or (λ n. Ok (f n)) o (Err overflow)

abbrev pub int_or_overflow : ℤ → Outcome
int_or_overflow n = if is_int n then Ok (int n) else Err overflow

abbrev pub uint_or_overflow : ℕ → Outcome
uint_or_overflow n = if nat_lt n (2 ^ 64) then Ok (uint n) else Err overflow

-- a duration has as many nanoseconds as an int can hold
abbrev pub duration_or_overflow : ℤ → Outcome
duration_or_overflow n = if is_int n then Ok (duration n) else Err overflow

-- from 0001-01-01T00:00:00Z to 9999-12-31T23:59:59.999999999Z,
-- in nanoseconds since 1970-01-01T00:00:00Z
abbrev pub is_instant : ℤ → Bool
is_instant t = int_le (neg_ℤ (pos 62_135_596_800_000_000_000)) t && int_le t (pos 253_402_300_799_999_999_999)

-- an instant on a local clock; the year that this clock shows has to be in the same range
abbrev pub timestamp_or_overflow : ℤ → ℤ → Outcome
timestamp_or_overflow t offset =
    if is_instant t && is_instant (local_nanosecond t offset) then Ok (timestamp t offset) else Err overflow

-- an int negated
abbrev pub opposite : Data → Outcome
opposite (int n) = int_or_overflow (neg_ℤ n)
opposite _ = Err (no_overload (codes "-"))

-- the items of both lists, in order
abbrev pub items_joined : Items → Items → Items
items_joined no_items es = es
items_joined (item d ds) es = item d (items_joined ds es)

-- a timestamp keeps its offset
abbrev pub sum_of : Data → Data → Outcome
sum_of (int m) (int n) = int_or_overflow (m +ℤ n)
sum_of (uint m) (uint n) = uint_or_overflow (m + n)
sum_of (text s) (text t) = Ok (text (s ++ t))
sum_of (bytes s) (bytes t) = Ok (bytes (s ++ t))
sum_of (list ds) (list es) = Ok (list (items_joined ds es))
sum_of (timestamp t offset) (duration n) = timestamp_or_overflow (t +ℤ n) offset
sum_of (duration n) (timestamp t offset) = timestamp_or_overflow (t +ℤ n) offset
sum_of (duration m) (duration n) = duration_or_overflow (m +ℤ n)
sum_of _ _ = Err (no_overload (codes "+"))

-- the difference of two timestamps is a duration, whatever their offsets are
abbrev pub difference_of : Data → Data → Outcome
difference_of (int m) (int n) = int_or_overflow (m -ℤ n)
difference_of (uint m) (uint n) = if nat_lt m n then Err overflow else Ok (uint (m - n))
difference_of (timestamp t offset) (timestamp u other) = duration_or_overflow (t -ℤ u)
difference_of (timestamp t offset) (duration n) = timestamp_or_overflow (t -ℤ n) offset
difference_of (duration m) (duration n) = duration_or_overflow (m -ℤ n)
difference_of _ _ = Err (no_overload (codes "-"))

abbrev pub product_of : Data → Data → Outcome
product_of (int m) (int n) = int_or_overflow (m *ℤ n)
product_of (uint m) (uint n) = uint_or_overflow (m * n)
product_of _ _ = Err (no_overload (codes "*"))

abbrev pub quotient_of : Data → Data → Outcome
quotient_of (int m) (int n) =
    if nat_eq (unsigned_abs n) 0 then Err division_by_zero else int_or_overflow (int_div m n)
quotient_of (uint m) (uint n) = if nat_eq n 0 then Err division_by_zero else Ok (uint (m / n))
quotient_of _ _ = Err (no_overload (codes "/"))

-- The least int has no remainder by -1, since their quotient is out of range.
abbrev pub remainder_of : Data → Data → Outcome
remainder_of (int m) (int n) =
    if nat_eq (unsigned_abs n) 0 then Err remainder_by_zero
    else (if is_int (int_div m n) then Ok (int (int_rem m n)) else Err overflow)
remainder_of (uint m) (uint n) = if nat_eq n 0 then Err remainder_by_zero else Ok (uint (m % n))
remainder_of _ _ = Err (no_overload (codes "%"))
