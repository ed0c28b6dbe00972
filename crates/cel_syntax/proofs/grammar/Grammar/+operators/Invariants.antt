use Rattle.std.proofs.Common.{◌≡◌, ◌+◌, ◌-◌, ◌*◌}
use Rattle.cel_syntax_ast.specs.Term.{term}
use Rattle.cel_syntax.specs.Parser as spec
use Rattle.cel_syntax.specs.Ahead.{tokens_left}
use Rattle.cel_syntax.proofs.grammar.Grammar.+operators.Given as goal

abbrev pub decreases-chain : goal.decreases-chain
decreases-chain g l = 4 * l.level + 1

abbrev pub decreases-climb : goal.decreases-climb
decreases-climb g l = 4 * l.level

abbrev pub decreases-turns : goal.decreases-turns
decreases-turns g l = 4 * l.below + 3

abbrev pub decreases-with_operand : goal.decreases-with_operand
decreases-with_operand g l = 4 * l.below + 2

abbrev pub invariant-turns-loop-turn : goal.invariant-turns-loop-turn
invariant-turns-loop-turn g l =
    spec.turns l.self.limit (spec.below l.self.limit) (spec.chain l.self.limit (spec.below l.self.limit) l.below) (l.below + 1) l.self.limit (term l.fn.found.0) l.fn.found.1 (tokens_left l.fn.tokens)
    ≡ spec.turns l.self.limit (spec.below l.self.limit) (spec.chain l.self.limit (spec.below l.self.limit) l.below) (l.below + 1) (l.self.limit - l._turn) (term l.found.0) l.found.1 (tokens_left l.tokens)
