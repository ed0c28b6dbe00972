-- Trusted by the clauses of other library calls.
-- What the answers on times don't say: the error is that of a name that isn't declared, as for a
-- double. Each name has a blank, so that no variable and no function has it.
use Rattle.std.specs.Prelude.{ℕ, List, ◌++◌, codes}
use Rattle.cel_value.specs.Faults.{Fault, undeclared}

-- the zone has a name, and names are in the database of time zones of the server's machine; or the
-- time that its clock shows is not in the years 1 to 9999
abbrev pub zone_limit : List ℕ → Fault
zone_limit zone = undeclared (codes "time zone " ++ zone)

-- the server computes with doubles here, and these round
abbrev pub rounding_limit : List ℕ → Fault
rounding_limit name = undeclared (name ++ codes " of a duration that a double rounds")

-- no document says what this conversion is
abbrev pub int_limit : Fault
int_limit = undeclared (codes "int of a duration")
