-- Trusted by the headline.
-- Dates and date-times. Source: RFC 3339, section 5.6: `full-date` and `date-time`, whose letters
-- may be upper or lower case; an hour is at most 23, a minute 59 and a second 60. The calendar is
-- the proleptic Gregorian one of `jiff_core`, in which 0000 is a leap year.
use Rattle.std.specs.Prelude.{ℕ, ◌+◌, ◌*◌, Bool, true, false, ◌&&◌, ◌||◌, ◌==◌, nat_le, List, [], ◌∷◌, length, take, drop, position, codes, pos, Option, Some, None, option_map, is_some, if◌then◌else◌}
use Rattle.std.specs.Char.{is_ascii_digit}
use Rattle.std.specs.List.{list_all}
use Rattle.jiff_core.specs.Calendar.{days_in_month}
use Rattle.kube_types_formats.specs.declared.fault.Fault.{Fault}
use Rattle.kube_types_formats.specs.declared.fault.Fault.TheVariants.{NotDate, NoSuchDay, NotDateTime, NoTimeZone}
use Rattle.kube_types_formats.specs.Forms.{fits, two_digits}
use Rattle.kube_types_formats.specs.Offsets.{is_one_of, last_offset}

-- the calendar has this day
abbrev pub is_civil : ℕ → ℕ → ℕ → Bool
is_civil year month day =
    nat_le year 9999 && nat_le 1 month && nat_le month 12 && nat_le 1 day
    && nat_le day (days_in_month (pos year) month)

-- YYYY-MM-DD, and a day of the calendar
unfoldable pub date_fault : List ℕ → Option Fault
date_fault text =
    if fits (codes "dddd-dd-dd") text then
    (if is_civil (two_digits text 0 * 100 + two_digits text 2) (two_digits text 5) (two_digits text 8)
    then None else Some NoSuchDay)
    else Some NotDate

-- HH:MM:SS
unfoldable pub is_clock : List ℕ → Bool
is_clock text =
    fits (codes "dd:dd:dd") text && nat_le (two_digits text 0) 23 && nat_le (two_digits text 3) 59
    && nat_le (two_digits text 6) 60

-- nothing, or a dot (46) and one or more digits
abbrev pub is_fraction : List ℕ → Bool
is_fraction [] = true
is_fraction (c ∷ cs) = (c == 46) && nat_le 1 (length cs) && list_all is_ascii_digit cs

abbrev pub is_time : List ℕ → Bool
is_time text = is_clock (take 8 text) && is_fraction (drop 8 text)

-- HH:MM
abbrev pub is_offset : List ℕ → Bool
is_offset text =
    fits (codes "dd:dd") text && nat_le (two_digits text 0) 23 && nat_le (two_digits text 3) 59

-- `Z`, `z`, or a sign and HH:MM
unfoldable pub is_zone : List ℕ → Bool
is_zone [] = false
is_zone (c ∷ cs) =
    (is_one_of (codes "Zz") c && (length cs == 0))
    || (is_one_of (codes "+-") c && is_offset cs)

-- the offset of the last sign, searched from the third byte on
abbrev pub last_sign : List ℕ → Option ℕ
last_sign rest = option_map (λ byte_offset. byte_offset + 2) (last_offset (codes "+-") (drop 2 rest))

-- the offset at which the zone starts: the last `Z` or `z`, or else the last sign
abbrev pub else_sign : Option ℕ → List ℕ → Option ℕ
else_sign (Some byte_offset) rest = Some byte_offset
else_sign None rest = last_sign rest

unfoldable pub zone_start : List ℕ → Option ℕ
zone_start rest = else_sign (last_offset (codes "Zz") rest) rest

-- the fault of a time and the zone that starts at this offset
abbrev pub zoned_fault : Option ℕ → List ℕ → Option Fault
zoned_fault None rest = Some NoTimeZone
zoned_fault (Some byte_offset) rest =
    if is_time (take byte_offset rest) && is_zone (drop byte_offset rest) then None else Some NotDateTime

abbrev pub time_fault : List ℕ → Option Fault
time_fault rest = if length rest == 0 then Some NotDateTime else zoned_fault (zone_start rest) rest

-- the fault of a date and a time around the first letter, which is at this offset
abbrev pub around_letter : Option ℕ → List ℕ → Option Fault
around_letter None text = Some NotDateTime
around_letter (Some byte_offset) text =
    if is_some (date_fault (take byte_offset text)) then Some NotDateTime
    else time_fault (drop (byte_offset + 1) text)

unfoldable pub date_time_fault : List ℕ → Option Fault
date_time_fault text = around_letter (position (is_one_of (codes "Tt")) text) text
