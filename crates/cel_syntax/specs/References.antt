-- Trusted by the clauses of other library calls.
-- The names that `References` hold.
use Rattle.std.specs.Prelude.{ℕ, List}
use Rattle.cel_syntax.specs.Names.{names_of}
use Rattle.cel_syntax.specs.declared.references.References.{References}

abbrev pub variable_names : References → List (List ℕ)
variable_names r = names_of r.variables.items

abbrev pub function_names : References → List (List ℕ)
function_names r = names_of r.functions.items
