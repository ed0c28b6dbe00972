-- Trusted by the clauses of other library calls.
-- Conversions between ints and times (CEL language definition, "List of Standard Definitions", `int`,
-- `timestamp`): a timestamp as the seconds since 1970-01-01T00:00:00Z, rounded down, and back. The
-- definition has no `int` of a duration; CEL-Go has one without documenting its unit.
use Rattle.std.specs.Prelude.{◌&&◌, Bool, Option, Some, None, Ok, Err, ℤ, pos, int_le, ◌*ℤ◌, if◌then◌else◌}
use Rattle.std.specs.Int.{int_div_euclid}
use Rattle.cel_value.specs.Data.{Data, int, timestamp, duration}
use Rattle.cel_value.specs.Faults.{overflow}
use Rattle.cel_value.specs.Ranges.{earliest_second, latest_second}
use Rattle.cel_semantics.specs.Outcome.{Outcome}
use Rattle.kube_server_times.specs.Limits.{int_limit}

abbrev pub int_of_timestamp : ℤ → Outcome
int_of_timestamp instant = Ok (int (int_div_euclid instant (pos 1_000_000_000)))

abbrev pub is_second : ℤ → Bool
is_second n = int_le earliest_second n && int_le n latest_second

-- the timestamp at a second
abbrev pub timestamp_at : ℤ → Outcome
timestamp_at n = if is_second n then Ok (timestamp (n *ℤ pos 1_000_000_000) (pos 0)) else Err overflow
