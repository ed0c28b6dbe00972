-- Trusted by the headline.
-- Parsers of the parts of a timestamp's text, as functions. They follow the steps of the code.
use Rattle.std.specs.Prelude.{ℕ, ◌+◌, ◌-◌, ◌*◌, ◌==◌, Bool, ◌&&◌, ◌||◌, nat_lt, nat_le, int_lt, List, [], ◌∷◌, length, Option, Some, None, option_map, ℤ, pos, neg_ℤ, ◌+ℤ◌, ◌-ℤ◌, ◌*ℤ◌, if◌then◌else◌}
use Rattle.std.specs.Char.{is_ascii_digit}
use Rattle.jiff_core.specs.Calendar.{days_in_month, days_from_civil}
use Rattle.cel_value_times.specs.declared.timestamp.Timestamp.{Timestamp}
use Rattle.cel_value_times.specs.Digits.{cut_part}
use Rattle.cel_value_times.specs.Fronts.{after, fraction_at}

infixl 10 ◌>>=◌
abbrev pub ◌>>=◌ : {A B : Type 0} → Option A → (A → Option B) → Option B
None >>= f = None
(Some x) >>= f = f x

-- two digits; below, four
abbrev pub two_at : List ℕ → Option (ℕ × List ℕ)
two_at [] = None
two_at (high ∷ []) = None
two_at (high ∷ (low ∷ rest)) =
    if is_ascii_digit high && is_ascii_digit low then Some ((high - 48) * 10 + (low - 48), rest)
    else None

unfoldable pub four_at : List ℕ → Option (ℕ × List ℕ)
four_at text = do
  century ← two_at text
  year ← two_at century.1
  Some (century.0 * 100 + year.0, year.1)

-- the three numbers of a date
pub record Date : Type 0 where
  pub year : ℕ
  pub month : ℕ
  pub day : ℕ

abbrev pub is_date : Date → Bool
is_date d =
    nat_le 1 d.year && (nat_le 1 d.month && (nat_le d.month 12
    && (nat_le 1 d.day && nat_le d.day (days_in_month (pos d.year) d.month))))

-- the day number of a date, or None if the calendar doesn't have it or its year is below 1
abbrev pub day_number_of : Date → Option ℤ
day_number_of d = if is_date d then Some (days_from_civil (pos d.year) d.month d.day) else None

-- a date's day number
unfoldable pub date_at : List ℕ → Option (ℤ × List ℕ)
date_at text = do
  year ← four_at text
  month_text ← after 45 year.1
  month ← two_at month_text
  day_text ← after 45 month.1
  day ← two_at day_text
  number ← day_number_of (record { year = year.0; month = month.0; day = day.0 })
  Some (number, day.1)

-- whether there is such a time; below, its second of the day
abbrev pub is_clock : ℕ → ℕ → ℕ → Bool
is_clock hour minute second = nat_lt hour 24 && (nat_lt minute 60 && nat_lt second 60)

abbrev pub seconds_of_day : ℕ → ℕ → ℕ → Option ℕ
seconds_of_day hour minute second =
    if is_clock hour minute second then Some (3600 * hour + 60 * minute + second) else None

unfoldable pub clock_at : List ℕ → Option (ℕ × List ℕ)
clock_at text = do
  hour ← two_at text
  minute_text ← after 58 hour.1
  minute ← two_at minute_text
  second_text ← after 58 minute.1
  second ← two_at second_text
  seconds ← seconds_of_day hour.0 minute.0 second.0
  Some (seconds, second.1)

-- the text after the letter between date and time
abbrev pub letter_at : List ℕ → Option (List ℕ)
letter_at [] = None
letter_at (c ∷ rest) = if (c == 84) || (c == 116) then Some rest else None

-- the nanoseconds of a fraction, which are 0 if there is none
abbrev pub part_of : Option (List ℕ) → List ℕ → Option (ℕ × List ℕ)
part_of None rest = Some (0, rest)
part_of (Some []) rest = None
part_of (Some (c ∷ cs)) rest = Some (cut_part 1_000_000_000 (c ∷ cs), rest)

abbrev pub part_at : List ℕ → Option (ℕ × List ℕ)
part_at text = part_of (fraction_at text).0 (fraction_at text).1

-- the minutes of hours and minutes at the end of a text
abbrev pub minutes_of : ℕ → ℕ → List ℕ → Option ℕ
minutes_of hour minute rest =
    if nat_lt hour 24 && (nat_lt minute 60 && (length rest == 0)) then Some (60 * hour + minute)
    else None

unfoldable pub minutes_at : List ℕ → Option ℕ
minutes_at text = do
  hour ← two_at text
  minute_text ← after 58 hour.1
  minute ← two_at minute_text
  minutes_of hour.0 minute.0 minute.1

-- the minutes of an offset at the end of a text
abbrev pub utc_at : List ℕ → Option ℤ
utc_at [] = Some (pos 0)
utc_at (c ∷ cs) = None

abbrev pub zone_at : List ℕ → Option ℤ
zone_at [] = None
zone_at (c ∷ rest) =
    if (c == 90) || (c == 122) then utc_at rest
    else (if c == 43 then option_map (λ n. pos n) (minutes_at rest)
    else (if c == 45 then option_map (λ n. neg_ℤ (pos n)) (minutes_at rest)
    else None))

-- the second since 1970-01-01T00:00:00Z, the nanoseconds after it, and the offset in minutes
pub record Parts : Type 0 where
  pub second : ℤ
  pub nanoseconds : ℕ
  pub offset : ℤ

-- the UTC second of a day number, a second of that day and the offset
abbrev pub utc_second : ℤ → ℕ → ℤ → ℤ
utc_second day second offset = day *ℤ pos 86_400 +ℤ pos second -ℤ pos 60 *ℤ offset

-- the parts, if the second is in the years 1 to 9999
abbrev pub in_range : Parts → Option Parts
in_range p =
    if int_lt p.second (neg_ℤ (pos 62_135_596_800)) then None
    else (if int_lt (pos 253_402_300_799) p.second then None
    else Some p)

unfoldable pub parts_at : List ℕ → Option Parts
parts_at text = do
  day ← date_at text
  time_text ← letter_at day.1
  clock ← clock_at time_text
  part ← part_at clock.1
  offset ← zone_at part.1
  in_range (record { second = utc_second day.0 clock.0 offset; nanoseconds = part.0; offset = offset })

abbrev pub timestamp_parts : Timestamp → Parts
timestamp_parts t = record { second = t.seconds; nanoseconds = t.nanoseconds; offset = t.offset_minutes }
