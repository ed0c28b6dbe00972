-- Trusted by the headline.
-- The ranges of durations, instants and offsets. CEL's timestamps range from
-- 0001-01-01T00:00:00Z to 9999-12-31T23:59:59.999999999Z, and its durations are signed 64-bit
-- numbers of nanoseconds (CEL language definition, "Values").
use Rattle.std.specs.Prelude.{ℤ, pos, neg_ℤ, ◌+ℤ◌, ◌*ℤ◌}
use Rattle.std.specs.Int.{w64}
use Rattle.std.specs.Prelude.{FitsSigned}
use Rattle.jiff_core.specs.Calendar.{IsBetween, IsWithin}

-- the nanoseconds that a duration can have
abbrev pub IsDuration : ℤ → Type 0
IsDuration n = FitsSigned w64 n

-- the first and the last second of the years 1 to 9999, counted from 1970-01-01T00:00:00
abbrev pub earliest_second : ℤ
earliest_second = neg_ℤ (pos 62_135_596_800)

abbrev pub latest_second : ℤ
latest_second = pos 253_402_300_799

-- a second of these years
abbrev pub IsSecond : ℤ → Type 0
IsSecond s = IsBetween earliest_second latest_second s

-- a nanosecond of such a second
abbrev pub IsNanosecond : ℤ → Type 0
IsNanosecond n =
    IsBetween (neg_ℤ (pos 62_135_596_800_000_000_000)) (pos 253_402_300_799_999_999_999) n

-- the minutes by which a local clock may be ahead of UTC: from -23:59 to 23:59
abbrev pub IsOffset : ℤ → Type 0
IsOffset minutes = IsWithin 1439 minutes

-- the second that a local clock shows
abbrev pub local_second : ℤ → ℤ → ℤ
local_second second offset = second +ℤ pos 60 *ℤ offset

-- the nanosecond that it shows
abbrev pub local_nanosecond : ℤ → ℤ → ℤ
local_nanosecond nanosecond offset = nanosecond +ℤ pos 60_000_000_000 *ℤ offset
