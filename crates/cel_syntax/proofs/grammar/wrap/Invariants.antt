use Rattle.std.proofs.Common.{◌≡◌}
use Rattle.cel_syntax_ast.specs.Term.{term}
use Rattle.cel_syntax.specs.Parser as spec
use Rattle.cel_syntax.proofs.grammar.wrap.Given as goal

abbrev pub invariant-loop-turn : goal.invariant-loop-turn
invariant-loop-turn l = term l.tree ≡ spec.wrap l.sign l._turn (term l.fn.inside)
