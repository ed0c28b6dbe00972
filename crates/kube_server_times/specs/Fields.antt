-- Trusted by the clauses of other library calls.
-- The fields of the time that a clock shows (CEL language definition, "List of Standard
-- Definitions", `getFullYear` to `getSeconds`). The day of the month is counted from 1 by `getDate`,
-- and from 0 by `getDayOfMonth`; the month and the day of the year are counted from 0, and the
-- day of the week from 0 for Sunday.
use Rattle.std.specs.Prelude.{ℕ, ◌-◌, ◌/◌, ◌%◌, ◌&&◌, List, [], ◌∷◌, Bool, Option, Some, None, Ok, Err, ℤ, pos, neg_ℤ, ◌+ℤ◌, ◌-ℤ◌, int_le, unsigned_abs, if◌then◌else◌}
use Rattle.std.specs.Int.{int_div_euclid, int_rem_euclid}
use Rattle.std.specs.Option.{option_map_or}
use Rattle.jiff_core.specs.Calendar.{days_from_civil}
use Rattle.cel_value.specs.Data.{Data, int}
use Rattle.cel_value.specs.Ranges.{local_nanosecond}
use Rattle.cel_value.specs.TextFunctions.{year_of, month_of, day_of}
use Rattle.cel_semantics.specs.Outcome.{Outcome}
use Rattle.kube_server_times.specs.Limits.{zone_limit}
use Rattle.kube_server_times.specs.Zones.{minutes_ahead}
use Rattle.kube_server_times.specs.declared.field.Field.{Field}
use Rattle.kube_server_times.specs.declared.field.Field.TheVariants.{FullYear, Month, DayOfYear, DayOfMonth, Date, DayOfWeek, Hours, Minutes, Seconds, Milliseconds}

-- ---- by the nanoseconds since 1970-01-01T00:00:00 that the clock shows

-- the day number, which is 0 for 1970-01-01, and the nanosecond of that day
abbrev pub day_number : ℤ → ℤ
day_number local = int_div_euclid local (pos 86_400_000_000_000)

abbrev pub time_of_day : ℤ → ℕ
time_of_day local = unsigned_abs (int_rem_euclid local (pos 86_400_000_000_000))

abbrev pub year_at : ℤ → ℕ
year_at day = year_of 9999 day

abbrev pub month_at : ℤ → ℕ
month_at day = month_of (year_at day) 12 day

abbrev pub day_at : ℤ → ℕ
day_at day = day_of (year_at day) (month_at day) day

abbrev pub day_of_year : ℤ → ℤ
day_of_year day = day -ℤ days_from_civil (pos (year_at day)) 1 1

-- 1970-01-01 was a Thursday
abbrev pub weekday_at : ℤ → ℕ
weekday_at day = unsigned_abs (int_rem_euclid (day +ℤ pos 4) (pos 7))

abbrev pub field_at : Field → ℤ → ℤ
field_at FullYear local = pos (year_at (day_number local))
field_at Month local = pos (month_at (day_number local) - 1)
field_at DayOfYear local = day_of_year (day_number local)
field_at DayOfMonth local = pos (day_at (day_number local) - 1)
field_at Date local = pos (day_at (day_number local))
field_at DayOfWeek local = pos (weekday_at (day_number local))
field_at Hours local = pos (time_of_day local / 3_600_000_000_000)
field_at Minutes local = pos (time_of_day local / 60_000_000_000 % 60)
field_at Seconds local = pos (time_of_day local / 1_000_000_000 % 60)
field_at Milliseconds local = pos (time_of_day local / 1_000_000 % 1_000)

-- ---- of an instant, by a zone

-- the time is in the years 1 to 9999
abbrev pub is_shown : ℤ → Bool
is_shown local =
    int_le (neg_ℤ (pos 62_135_596_800_000_000_000)) local && int_le local (pos 253_402_300_799_999_999_999)

abbrev pub field_shown : List ℕ → Field → ℤ → Outcome
field_shown zone f local = if is_shown local then Ok (int (field_at f local)) else Err (zone_limit zone)

-- the field of an instant as the clock of a zone shows it
abbrev pub field_in_zone : Field → ℤ → List ℕ → Outcome
field_in_zone f instant zone =
    option_map_or (λ minutes. field_shown zone f (local_nanosecond instant minutes)) (minutes_ahead zone)
    (Err (zone_limit zone))
