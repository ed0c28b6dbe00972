-- Trusted by the clauses of other library calls.
-- The texts of times as CEL-Go prints them. A timestamp is in RFC 3339, with as few decimal places as
-- are exact and `Z` for an offset of 0 (Go documentation, "time", `RFC3339Nano`). A duration is its
-- seconds, as a double in decimal with the fewest digits that denote it, and `s` (documentation of
-- CEL-Go, `string`; Go documentation, "strconv", `FormatFloat`). Where the double may not be the
-- exact number of seconds, or its digits may be too many, the text isn't answered: a fraction of a
-- second has to be a multiple of 1/512, below 1,000,000 seconds.
use Rattle.std.specs.Prelude.{ℕ, ◌/◌, ◌%◌, ◌==◌, ◌&&◌, ◌||◌, nat_lt, List, [], ◌++◌, codes, decimal, Bool, Option, Some, None, Ok, Err, ℤ, pos, negsuc, int_lt, unsigned_abs, if◌then◌else◌}
use Rattle.std.specs.Int.{int_div_euclid, int_rem_euclid}
use Rattle.std.specs.Option.{option_map_or}
use Rattle.cel_value.specs.Data.{Data, text, timestamp, duration}
use Rattle.cel_value.specs.Digits.{decimals_text}
use Rattle.cel_value.specs.Ranges.{local_second}
use Rattle.cel_value.specs.TextFunctions.{shown_at}
use Rattle.cel_value.specs.TimestampTexts.{local_text, offset_text}
use Rattle.cel_semantics.specs.Outcome.{Outcome}
use Rattle.kube_server_times.specs.Limits.{rounding_limit}

-- ---- timestamps

abbrev pub zone_text : ℤ → List ℕ
zone_text offset = if int_lt offset (pos 0) then offset_text offset
    else (if int_lt (pos 0) offset then offset_text offset else codes "Z")

-- the local date and time to the second
abbrev pub local_second_text : ℤ → ℤ → List ℕ
local_second_text second offset = local_text (shown_at (local_second second offset)) 84

-- from the second since 1970-01-01T00:00:00Z, the nanoseconds after it and the offset in minutes
abbrev pub moment_text : ℤ → ℕ → ℤ → List ℕ
moment_text second nanoseconds offset =
    local_second_text second offset ++ (decimals_text 9 nanoseconds ++ zone_text offset)

abbrev pub timestamp_text : ℤ → ℤ → List ℕ
timestamp_text instant offset =
    moment_text (int_div_euclid instant (pos 1_000_000_000))
    (unsigned_abs (int_rem_euclid instant (pos 1_000_000_000))) offset

-- ---- durations

abbrev pub sign_text : ℤ → List ℕ
sign_text n = if int_lt n (pos 0) then codes "-" else []

-- whether the double of these seconds, and nanoseconds after them, is exact and prints as they do
abbrev pub is_exact : ℕ → ℕ → Bool
is_exact seconds nanoseconds =
    (nanoseconds == 0) || ((nanoseconds % 1_953_125 == 0) && nat_lt seconds 1_000_000)

abbrev pub seconds_text : ℕ → ℕ → List ℕ
seconds_text seconds nanoseconds = decimal seconds ++ (decimals_text 9 nanoseconds ++ codes "s")

abbrev pub duration_text : ℤ → List ℕ
duration_text n =
    sign_text n ++ seconds_text (unsigned_abs n / 1_000_000_000) (unsigned_abs n % 1_000_000_000)

abbrev pub is_printed : ℤ → Bool
is_printed n = is_exact (unsigned_abs n / 1_000_000_000) (unsigned_abs n % 1_000_000_000)

abbrev pub duration_string : ℤ → Outcome
duration_string n =
    if is_printed n then Ok (text (duration_text n)) else Err (rounding_limit (codes "string"))
