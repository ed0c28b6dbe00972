-- Trusted by the headline.
-- The meaning of a text as a duration or a timestamp, as functions of the text, and
-- the printed text of a timestamp, as a function of its instant and offset. They
-- compute what `DurationTexts` and `TimestampTexts` state as relations. Sources:
-- Go, `time.ParseDuration`; RFC 3339, section 5.6.
use Rattle.std.specs.Prelude.{◌≡◌, ℕ, zero, suc, ◌+◌, ◌==◌, ◌&&◌, ◌++◌, int_lt, List, [], ◌∷◌, length, Option, Some, None, option_map, ℤ, pos, neg_ℤ, ◌+ℤ◌, ◌-ℤ◌, ◌*ℤ◌, unsigned_abs, if◌then◌else◌}
use Rattle.std.specs.Int.{int_div_euclid, int_rem_euclid}
use Rattle.jiff_core.specs.Calendar.{days_from_civil}
use Rattle.cel_value_times.specs.Ranges.{local_second}
use Rattle.cel_value_times.specs.Fronts.{after, amount_at}
use Rattle.cel_value_times.specs.TimestampFronts.{◌>>=◌, Parts, parts_at}
use Rattle.cel_value_times.specs.TimestampTexts.{Local, local_at, local_text, nanoseconds_text, offset_text, IsTimestampText}

-- the nanoseconds of at most n amounts that make up the whole text
unfoldable pub amounts_within : ℕ → List ℕ → Option ℕ
amounts_within zero [] = Some 0
amounts_within zero (c ∷ cs) = None
amounts_within (suc n) [] = Some 0
amounts_within (suc n) (c ∷ cs) = do
  first ← amount_at (c ∷ cs)
  rest ← amounts_within n first.1
  Some (first.0 + rest)

-- The nanoseconds of a text without its sign: a bare zero, or
-- amounts. A text has no more amounts than bytes.
abbrev pub magnitude_of : List ℕ → Option ℕ
magnitude_of [] = None
magnitude_of (c ∷ cs) =
    if (c == 48) && (length cs == 0) then Some 0
    else amounts_within (length (c ∷ cs)) (c ∷ cs)

-- the nanoseconds, if they are in the range of a duration
abbrev pub in_64_bits : ℤ → Option ℤ
in_64_bits n =
    if int_lt n (neg_ℤ (pos 9_223_372_036_854_775_808)) then None
    else (if int_lt (pos 9_223_372_036_854_775_807) n then None
    else Some n)

-- given the text after a minus, if there is one
abbrev pub signed_of : Option (List ℕ) → List ℕ → Option ℤ
signed_of (Some rest) text = do
  n ← magnitude_of rest
  in_64_bits (neg_ℤ (pos n))
signed_of None text = do
  n ← magnitude_of text
  in_64_bits (pos n)

-- the nanoseconds of the duration that a text denotes
unfoldable pub duration_of : List ℕ → Option ℤ
duration_of text = signed_of (after 45 text) text

-- the nanoseconds since 1970-01-01T00:00:00Z, and the offset in minutes
abbrev pub instant_and_offset : Parts → ℤ × ℤ
instant_and_offset p = (p.second *ℤ pos 1_000_000_000 +ℤ pos p.nanoseconds, p.offset)

-- the instant and the offset of the timestamp that a text denotes
unfoldable pub timestamp_of : List ℕ → Option (ℤ × ℤ)
timestamp_of text = option_map instant_and_offset (parts_at text)

-- the last of the years 1 to n that has begun by this day, or 0 if none has
unfoldable pub year_of : ℕ → ℤ → ℕ
year_of zero day = 0
year_of (suc n) day = if int_lt day (days_from_civil (pos (suc n)) 1 1) then year_of n day else suc n

-- the last of the months 1 to n of a year that has begun by this day, or 0 if none has
unfoldable pub month_of : ℕ → ℕ → ℤ → ℕ
month_of year zero day = 0
month_of year (suc n) day =
    if int_lt day (days_from_civil (pos year) (suc n) 1) then month_of year n day else suc n

-- the day of the month, starting at 1
abbrev pub day_of : ℕ → ℕ → ℤ → ℕ
day_of year month day = suc (unsigned_abs (day -ℤ days_from_civil (pos year) month 1))

-- the local date and time of a day number and a second of the day, given the year and the month
abbrev pub shown_in_month : ℕ → ℕ → ℤ → ℕ → Local
shown_in_month year month day second = local_at year month (day_of year month day) second

abbrev pub shown_in_year : ℕ → ℤ → ℕ → Local
shown_in_year year day second = shown_in_month year (month_of year 12 day) day second

-- the local date and time at a second counted from 1970-01-01T00:00:00
abbrev pub shown_at : ℤ → Local
shown_at second =
    let day = int_div_euclid second (pos 86_400) in
    shown_in_year (year_of 9999 day) day (unsigned_abs (int_rem_euclid second (pos 86_400)))

-- the text of a timestamp, from its second, the nanoseconds after it and the offset
abbrev pub text_of_parts : ℤ → ℕ → ℤ → List ℕ
text_of_parts second nanoseconds offset =
    local_text (shown_at (local_second second offset)) 84
    ++ (nanoseconds_text nanoseconds ++ offset_text offset)

-- the same from its instant and its offset
unfoldable pub timestamp_text : ℤ → ℤ → List ℕ
timestamp_text instant offset =
    text_of_parts (int_div_euclid instant (pos 1_000_000_000))
    (unsigned_abs (int_rem_euclid instant (pos 1_000_000_000))) offset

-- the text denotes a timestamp with this instant and this offset
pub record MeansInstant (text : List ℕ) (instant offset : ℤ) : Type 0 where
  pub second : ℤ
  pub nanoseconds : ℕ
  pub means : IsTimestampText text second nanoseconds offset
  pub value : instant ≡ second *ℤ pos 1_000_000_000 +ℤ pos nanoseconds
