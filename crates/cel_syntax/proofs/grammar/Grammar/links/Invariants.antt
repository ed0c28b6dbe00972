use Rattle.std.proofs.Common.{◌≡◌, ◌+◌, ◌-◌}
use Rattle.cel_syntax_ast.specs.Term.{term}
use Rattle.cel_syntax.specs.Parser as spec
use Rattle.cel_syntax.specs.Ahead.{tokens_left}
use Rattle.cel_syntax.proofs.grammar.Grammar.links.Given as goal

abbrev pub invariant-loop-turn : goal.invariant-loop-turn
invariant-loop-turn g l = spec.links l.self.limit (spec.below l.self.limit) (l.self.limit + 1) (term l.fn.found.0) l.fn.found.1 (tokens_left l.fn.tokens)
    ≡ spec.links l.self.limit (spec.below l.self.limit) (l.self.limit + 1 - l._turn) (term l.found.0) l.found.1 (tokens_left l.tokens)
