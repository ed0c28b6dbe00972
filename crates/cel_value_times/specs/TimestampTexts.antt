-- Trusted by the headline.
-- The texts of timestamps: `date-time` of RFC 3339, section 5.6. A second is at most 59, a year at
-- least 1, and a fraction is truncated after its ninth digit. Dates and their day numbers are those
-- of the proleptic Gregorian calendar of `jiff_core`.
use Rattle.std.specs.Prelude.{◌≡◌, ℕ, suc, ◌+◌, ◌*◌, ◌/◌, ◌%◌, ◌<◌, ◌≤◌, ◌==◌, ◌++◌, List, [], ◌∷◌, length, Option, Some, None, ℤ, pos, negsuc, neg_ℤ, ◌+ℤ◌, ◌*ℤ◌, codes, true, ◌⊎◌, if◌then◌else◌}
use Rattle.std.specs.Str.{all_ascii_digits}
use Rattle.jiff_core.specs.Calendar.{IsCivilDate, days_from_civil}
use Rattle.cel_value_times.specs.Digits.{cut_part, digits_after_dot, fraction_text}
use Rattle.cel_value_times.specs.Ranges.{IsSecond, local_second}

-- a number below 100 as two digits; below, one under 10000 as four
abbrev pub two_digits : ℕ → List ℕ
two_digits n = (48 + n / 10) ∷ (48 + n % 10) ∷ []

abbrev pub four_digits : ℕ → List ℕ
four_digits n = two_digits (n / 100) ++ two_digits (n % 100)

-- a local date and time
pub record Local : Type 0 where
  pub year : ℕ
  pub month : ℕ
  pub day : ℕ
  pub hour : ℕ
  pub minute : ℕ
  pub second : ℕ

-- from the date and the second of the day
abbrev pub local_at : ℕ → ℕ → ℕ → ℕ → Local
local_at year month day second = record {
  year = year;
  month = month;
  day = day;
  hour = second / 3600;
  minute = second / 60 % 60;
  second = second % 60;
}

-- there is such a time, in a year from 1 to 9999
pub record IsLocal (l : Local) : Type 0 where
  pub date : IsCivilDate (pos l.year) l.month l.day
  pub from_year_one : 1 ≤ l.year
  pub hour : l.hour < 24
  pub minute : l.minute < 60
  pub second : l.second < 60

-- the second that it denotes, counted from 1970-01-01T00:00:00
abbrev pub second_of : Local → ℤ
second_of l =
    days_from_civil (pos l.year) l.month l.day *ℤ pos 86_400
    +ℤ pos (3600 * l.hour + 60 * l.minute + l.second)

abbrev pub date_text : ℕ → ℕ → ℕ → List ℕ
date_text year month day =
    four_digits year ++ (45 ∷ (two_digits month ++ (45 ∷ two_digits day)))

abbrev pub time_text : ℕ → ℕ → ℕ → List ℕ
time_text hour minute second =
    two_digits hour ++ (58 ∷ (two_digits minute ++ (58 ∷ two_digits second)))

-- the date, a letter, and the time
abbrev pub local_text : Local → ℕ → List ℕ
local_text l letter =
    date_text l.year l.month l.day ++ (letter ∷ time_text l.hour l.minute l.second)

-- hours and minutes
abbrev pub clock_text : ℕ → List ℕ
clock_text minutes = two_digits (minutes / 60) ++ (58 ∷ two_digits (minutes % 60))

-- a text denotes the offset of a local clock, in minutes
pub data IsOffsetText (text : List ℕ) (minutes : ℤ) : Type 0 where
  utc : text ≡ codes "Z" → minutes ≡ pos 0 → IsOffsetText text minutes
  small_utc : text ≡ codes "z" → minutes ≡ pos 0 → IsOffsetText text minutes
  ahead : (n : ℕ) → n < 1440 → text ≡ 43 ∷ clock_text n → minutes ≡ pos n →
      IsOffsetText text minutes
  behind : (n : ℕ) → n < 1440 → text ≡ 45 ∷ clock_text n → minutes ≡ neg_ℤ (pos n) →
      IsOffsetText text minutes

-- the letter between date and time
abbrev pub IsLetter : ℕ → Type 0
IsLetter c = (c ≡ 84) ⊎ (c ≡ 116)

-- digits follow a dot
abbrev pub IsFraction : Option (List ℕ) → Type 0
IsFraction None = Unit {0}
IsFraction (Some digits) = (0 < length digits) × (all_ascii_digits digits ≡ true)

-- the text denotes the timestamp of this second since 1970-01-01T00:00:00Z, these nanoseconds after
-- it, and this offset of the local clock in minutes
pub record IsTimestampText (text : List ℕ) (second : ℤ) (nanoseconds : ℕ) (offset : ℤ) : Type 0 where
  pub shown : Local
  pub letter : ℕ
  pub fraction : Option (List ℕ)
  pub zone : List ℕ
  pub spelled : text ≡ local_text shown letter ++ (fraction_text fraction ++ zone)
  pub is_local : IsLocal shown
  pub is_letter : IsLetter letter
  pub is_fraction : IsFraction fraction
  pub is_zone : IsOffsetText zone offset
  pub instant : local_second second offset ≡ second_of shown
  pub cut : nanoseconds ≡ cut_part 1_000_000_000 (digits_after_dot fraction)
  pub in_range : IsSecond second

-- the nanoseconds as a fraction of 0, 3, 6 or 9 digits, the fewest that are exact
abbrev pub three_digits : ℕ → List ℕ
three_digits n = (48 + n / 100) ∷ two_digits (n % 100)

abbrev pub nanoseconds_text : ℕ → List ℕ
nanoseconds_text n =
    if n == 0 then []
    else (if n % 1_000_000 == 0 then 46 ∷ three_digits (n / 1_000_000)
    else (if n % 1_000 == 0
    then 46 ∷ (three_digits (n / 1_000_000) ++ three_digits (n / 1_000 % 1_000))
    else 46 ∷ (three_digits (n / 1_000_000)
    ++ (three_digits (n / 1_000 % 1_000) ++ three_digits (n % 1_000)))))

-- the sign, the hours and the minutes of an offset; the sign of 0 is a plus
abbrev pub offset_text : ℤ → List ℕ
offset_text (pos n) = 43 ∷ clock_text n
offset_text (negsuc n) = 45 ∷ clock_text (suc n)

-- the text is the one printed for the timestamp: the local
-- time with a capital T, and the offset in digits
pub record IsPrintedTimestamp (text : List ℕ) (second : ℤ) (nanoseconds : ℕ) (offset : ℤ) : Type 0 where
  pub shown : Local
  pub is_local : IsLocal shown
  pub instant : local_second second offset ≡ second_of shown
  pub spelled : text ≡ local_text shown 84 ++ (nanoseconds_text nanoseconds ++ offset_text offset)
