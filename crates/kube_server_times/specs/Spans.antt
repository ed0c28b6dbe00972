-- Trusted by the clauses of other library calls.
-- The whole units of a duration (CEL language definition, "List of Standard Definitions", `getHours`
-- to `getSeconds`; documentation of CEL-Go, for `getMilliseconds` all milliseconds of the duration).
-- A part of a unit is cut off. A server computes hours, minutes and seconds as doubles (Go
-- documentation, "time", `Duration.Hours`), which may round up less than a microsecond before the
-- next whole unit: these aren't answered.
use Rattle.std.specs.Prelude.{ℕ, ◌+◌, ◌%◌, nat_lt, List, [], Bool, false, Option, Some, None, Ok, Err, ℤ, pos, unsigned_abs, if◌then◌else◌}
use Rattle.std.specs.Int.RustNames.{int_div}
use Rattle.std.specs.Option.{option_map_or}
use Rattle.cel_value.specs.Data.{Data, int, timestamp, duration}
use Rattle.cel_value.specs.Faults.{no_overload}
use Rattle.cel_value.specs.Parts.{text_in}
use Rattle.cel_semantics.specs.Outcome.{Outcome}
use Rattle.kube_server_times.specs.Fields.{field_in_zone}
use Rattle.kube_server_times.specs.Limits.{rounding_limit}
use Rattle.kube_server_times.specs.declared.field.Field.{Field}
use Rattle.kube_server_times.specs.declared.field.Field.TheVariants.{FullYear, Month, DayOfYear, DayOfMonth, Date, DayOfWeek, Hours, Minutes, Seconds, Milliseconds}

-- the nanoseconds of a unit
abbrev pub unit_of : Field → Option ℕ
unit_of Hours = Some 3_600_000_000_000
unit_of Minutes = Some 60_000_000_000
unit_of Seconds = Some 1_000_000_000
unit_of Milliseconds = Some 1_000_000
unit_of _ = None

-- whether a double may round the units up; milliseconds aren't computed as doubles
abbrev pub may_round_up : Field → ℤ → ℕ → Bool
may_round_up Milliseconds nanoseconds unit = false
may_round_up f nanoseconds unit = nat_lt unit (unsigned_abs nanoseconds % unit + 1_000)

abbrev pub units_in : Field → List ℕ → ℤ → ℕ → Outcome
units_in f name nanoseconds unit =
    if may_round_up f nanoseconds unit then Err (rounding_limit name)
    else Ok (int (int_div nanoseconds (pos unit)))

-- ---- getters

-- the answer to a getter of a timestamp, perhaps with a zone, or of a duration; UTC is the zone
-- where none is named
abbrev pub getter : Field → List ℕ → Data → Option Data → Outcome
getter f name (timestamp t o) None = field_in_zone f t []
getter f name (timestamp t o) (Some zone) =
    option_map_or (field_in_zone f t) (text_in zone) (Err (no_overload name))
getter f name (duration n) None = option_map_or (units_in f name n) (unit_of f) (Err (no_overload name))
getter f name v w = Err (no_overload name)
