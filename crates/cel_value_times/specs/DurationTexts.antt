-- Trusted by the headline.
-- The texts of durations. They are parsed by the grammar of Go's `time.ParseDuration`, which
-- CEL's durations follow: an optional sign and decimal numbers, each with an optional
-- fraction and a unit, such as `-1.5h` and `2h45m`. Each amount is truncated to whole
-- nanoseconds. They are printed as by Go's `Duration.String`.
use Rattle.std.specs.Prelude.{◌≡◌, ℕ, ◌+◌, ◌*◌, ◌/◌, ◌%◌, ◌<◌, ◌==◌, ◌++◌, nat_lt, List, [], ◌∷◌, length, Option, ℤ, pos, neg_ℤ, negsuc, suc, codes, true, ◌⊎◌, if◌then◌else◌}
use Rattle.std.specs.List.{AllByRecursion, flat_map}
use Rattle.std.specs.Str.{all_ascii_digits}
use Rattle.std.specs.Fmt.{decimal}
use Rattle.cel_value_times.specs.Digits.{number, cut_part, digits_after_dot, fraction_text, decimals_text}
use Rattle.cel_value_times.specs.Ranges.{IsDuration}

-- the name of a unit, and its nanoseconds
pub data IsUnit (name : List ℕ) (nanoseconds : ℕ) : Type 0 where
  hour : name ≡ codes "h" → nanoseconds ≡ 3_600_000_000_000 → IsUnit name nanoseconds
  minute : name ≡ codes "m" → nanoseconds ≡ 60_000_000_000 → IsUnit name nanoseconds
  second : name ≡ codes "s" → nanoseconds ≡ 1_000_000_000 → IsUnit name nanoseconds
  millisecond : name ≡ codes "ms" → nanoseconds ≡ 1_000_000 → IsUnit name nanoseconds
  microsecond : name ≡ codes "us" → nanoseconds ≡ 1_000 → IsUnit name nanoseconds
  -- with the micro sign, U+00B5, in UTF-8
  micro_sign : name ≡ 0xc2 ∷ 0xb5 ∷ codes "s" → nanoseconds ≡ 1_000 → IsUnit name nanoseconds
  -- with the Greek letter mu, U+03BC
  greek_mu : name ≡ 0xce ∷ 0xbc ∷ codes "s" → nanoseconds ≡ 1_000 → IsUnit name nanoseconds
  nanosecond : name ≡ codes "ns" → nanoseconds ≡ 1 → IsUnit name nanoseconds

-- a decimal number with its unit
pub record Amount : Type 0 where
  -- the digits before the dot
  pub whole : List ℕ
  -- those after the dot, if there is one
  pub fraction : Option (List ℕ)
  -- the unit's name, and its nanoseconds
  pub name : List ℕ
  pub unit : ℕ

abbrev pub amount_text : Amount → List ℕ
amount_text a = a.whole ++ (fraction_text a.fraction ++ a.name)

-- the unit exists, and the number has at least one digit
pub record IsAmount (a : Amount) : Type 0 where
  pub whole : all_ascii_digits a.whole ≡ true
  pub fraction : all_ascii_digits (digits_after_dot a.fraction) ≡ true
  pub some_digit : 0 < length a.whole + length (digits_after_dot a.fraction)
  pub unit : IsUnit a.name a.unit

-- the nanoseconds of an amount, truncated to a whole number
abbrev pub amount_nanoseconds : Amount → ℕ
amount_nanoseconds a = number a.whole * a.unit + cut_part a.unit (digits_after_dot a.fraction)

abbrev pub total_nanoseconds : List Amount → ℕ
total_nanoseconds [] = 0
total_nanoseconds (a ∷ rest) = amount_nanoseconds a + total_nanoseconds rest

-- the text is a sequence of amounts, possibly empty, with this sum of nanoseconds
pub record AreAmounts (text : List ℕ) (nanoseconds : ℕ) : Type 0 where
  pub amounts : List Amount
  pub each : AllByRecursion IsAmount amounts
  pub spelled : text ≡ flat_map amount_text amounts
  pub total : nanoseconds ≡ total_nanoseconds amounts

-- a text without a sign: one or more amounts, or a bare zero
abbrev pub IsMagnitude : List ℕ → ℕ → Type 0
IsMagnitude text n = ((text ≡ codes "0") × (n ≡ 0)) ⊎ ((0 < length text) × AreAmounts text n)

-- the text denotes the duration of this many nanoseconds
pub data IsDurationText (text : List ℕ) (nanoseconds : ℤ) : Type 0 where
  forward : (n : ℕ) → IsMagnitude text n → nanoseconds ≡ pos n →
      IsDuration nanoseconds → IsDurationText text nanoseconds
  -- after a minus
  backward : (magnitude : List ℕ) (n : ℕ) → text ≡ 45 ∷ magnitude → IsMagnitude magnitude n →
      nanoseconds ≡ neg_ℤ (pos n) → IsDuration nanoseconds → IsDurationText text nanoseconds

-- from one second on: the hours, if any, the minutes, if there are any or hours, and the seconds
abbrev pub hours_text : ℕ → List ℕ
hours_text n =
    if nat_lt n 3_600_000_000_000 then [] else decimal (n / 3_600_000_000_000) ++ codes "h"

abbrev pub minutes_text : ℕ → List ℕ
minutes_text n =
    if nat_lt n 60_000_000_000 then [] else decimal (n / 60_000_000_000 % 60) ++ codes "m"

abbrev pub seconds_text : ℕ → List ℕ
seconds_text n =
    decimal (n / 1_000_000_000 % 60) ++ (decimals_text 9 (n % 1_000_000_000) ++ codes "s")

-- below one second: the largest unit of which there is at least one
abbrev pub small_text : ℕ → List ℕ
small_text n =
    if nat_lt n 1_000 then decimal n ++ codes "ns"
    else (if nat_lt n 1_000_000
    then decimal (n / 1_000) ++ (decimals_text 3 (n % 1_000) ++ 0xc2 ∷ 0xb5 ∷ codes "s")
    else decimal (n / 1_000_000) ++ (decimals_text 6 (n % 1_000_000) ++ codes "ms"))

abbrev pub magnitude_text : ℕ → List ℕ
magnitude_text n =
    if n == 0 then codes "0s"
    else (if nat_lt n 1_000_000_000 then small_text n
    else hours_text n ++ (minutes_text n ++ seconds_text n))

-- the printed text of a duration
abbrev pub duration_text : ℤ → List ℕ
duration_text (pos n) = magnitude_text n
duration_text (negsuc n) = 45 ∷ magnitude_text (suc n)
