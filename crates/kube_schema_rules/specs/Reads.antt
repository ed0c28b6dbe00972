-- Trusted by the clauses of other library calls.
-- What a rule reads of the value of a name.
use Rattle.std.specs.Prelude.{ℕ, List, Option, Some, None}
use Rattle.cel.specs.Part.{Part, both_read, part_read}
use Rattle.cel.specs.Reads.{reads_of}
use Rattle.cel_syntax.specs.Term.{Term}

-- by its text or by its messageExpression
abbrev pub texts_read : List ℕ → Term → Option Term → Option Part
texts_read x tree None = part_read x (reads_of tree)
texts_read x tree (Some m) = both_read (part_read x (reads_of tree)) (part_read x (reads_of m))
