-- Trusted by the clauses of policies.
-- The tree of a program.
use Rattle.std.specs.Prelude.{Option, Some, None, Result, Ok, Err}
use Rattle.cel_syntax.specs.Term.{Term, term}
use Rattle.cel.specs.declared.program.Program.{Program}

abbrev pub program_term : Program → Term
program_term p = term p.expression

-- the tree of the program, or None if the text was not compiled
abbrev pub program_seen : {E : Type 0} → Result Program E → Option Term
program_seen (Ok p) = Some (program_term p)
program_seen (Err e) = None
