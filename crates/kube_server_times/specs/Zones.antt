-- Trusted by the clauses of other library calls.
-- The zones of getters: fixed offsets from UTC, `+hh:mm` and `-hh:mm` with hours up to 14 (CEL
-- language definition, "Timezones"), also without a sign (CEL conformance tests, "timestamps"), and
-- UTC, which is also meant by an empty name (Go documentation, "time", `LoadLocation`).
use Rattle.std.specs.Prelude.{ℕ, ◌+◌, ◌-◌, ◌*◌, ◌==◌, ◌&&◌, nat_le, nat_lt, List, [], ◌∷◌, codes, Option, Some, None, option_map, ℤ, pos, neg_ℤ, if◌then◌else◌}
use Rattle.std.specs.Char.{is_ascii_digit}
use Rattle.std.specs.Str.{bytes_eq}

-- the number of two digits
abbrev pub two_digits : ℕ → ℕ → Option ℕ
two_digits high low =
    if is_ascii_digit high && is_ascii_digit low then Some ((high - 48) * 10 + (low - 48)) else None

-- the minutes of so many hours and minutes
abbrev pub minutes_of : Option ℕ → Option ℕ → Option ℕ
minutes_of None m = None
minutes_of (Some h) None = None
minutes_of (Some h) (Some m) = if nat_le h 14 && nat_lt m 60 then Some (60 * h + m) else None

-- the minutes of a text `hh:mm`; a colon is 58
abbrev pub clock_of : List ℕ → Option ℕ
clock_of (a ∷ b ∷ c ∷ d ∷ e ∷ []) = if c == 58 then minutes_of (two_digits a b) (two_digits d e) else None
clock_of _ = None

-- the minutes by which an offset is ahead of UTC; a plus is 43, a minus 45
abbrev pub offset_of : List ℕ → Option ℤ
offset_of [] = None
offset_of (c ∷ cs) =
    if c == 43 then option_map (λ n. pos n) (clock_of cs)
    else (if c == 45 then option_map (λ n. neg_ℤ (pos n)) (clock_of cs)
    else option_map (λ n. pos n) (clock_of (c ∷ cs)))

-- the minutes by which the clock of a zone is ahead of UTC
abbrev pub minutes_ahead : List ℕ → Option ℤ
minutes_ahead zone =
    if bytes_eq zone [] then Some (pos 0)
    else (if bytes_eq zone (codes "UTC") then Some (pos 0)
    else offset_of zone)
