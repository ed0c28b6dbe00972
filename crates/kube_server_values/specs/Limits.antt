-- Trusted by the clauses of other library calls.
-- What isn't answered, since no document says what the answer is: the error is that of a name that
-- isn't declared, as for a double. Each name has a blank, so that no variable and no function has it.
use Rattle.std.specs.Prelude.{codes}
use Rattle.cel_value.specs.Faults.{Fault, undeclared}

-- an optional field or item of a value that is neither a map nor a list nor an optional of one
abbrev pub member_limit : Fault
member_limit = undeclared (codes "optional member of such a value")

-- an optional item of a map at a value that can't be a key
abbrev pub key_limit : Fault
key_limit = undeclared (codes "optional member at such a key")

-- `optional.ofNonZeroValue` of an optional without a value, or of a timestamp that may be a zero value
abbrev pub zero_limit : Fault
zero_limit = undeclared (codes "optional.ofNonZeroValue of such a value")
