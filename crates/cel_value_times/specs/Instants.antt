-- Trusted by the clauses of policies.
-- Timestamps as contracts see them: the instant, and the time that the local clock shows.
use Rattle.std.specs.Prelude.{ℤ, pos, ◌+ℤ◌, ◌*ℤ◌}
use Rattle.cel_value_times.specs.declared.timestamp.Timestamp.{Timestamp}
use Rattle.cel_value_times.specs.Ranges.{IsNanosecond, local_nanosecond}

-- the nanoseconds since 1970-01-01T00:00:00Z
abbrev pub instant : Timestamp → ℤ
instant t = t.seconds *ℤ pos 1_000_000_000 +ℤ pos t.nanoseconds

-- there is a timestamp with this instant whose local clock is this many minutes ahead of UTC
abbrev pub HasTimestamp : ℤ → ℤ → Type 0
HasTimestamp nanosecond offset =
    IsNanosecond nanosecond × IsNanosecond (local_nanosecond nanosecond offset)
