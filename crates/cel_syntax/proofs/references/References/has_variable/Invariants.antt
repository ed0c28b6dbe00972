use Rattle.std.proofs.Common.{◌≡◌, drop}
use Rattle.std.specs.List.{list_any}
use Rattle.std.specs.Str.{bytes_eq}
use Rattle.cel_syntax.specs.Names.{names_of}
use Rattle.cel_syntax.proofs.references.References.has_variable.Given as goal

abbrev pub invariant-loop-variable : goal.invariant-loop-variable
invariant-loop-variable l =
    list_any (bytes_eq l.name) (names_of l.variable-items) ≡ list_any (bytes_eq l.name) (names_of (drop l.variable-index l.variable-items))
