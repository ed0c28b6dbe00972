use Rattle.std.proofs.Common.{◌≡◌, ◌-◌, map}
use Rattle.cel_syntax_ast.specs.Term.{term}
use Rattle.cel_syntax.specs.Parser as spec
use Rattle.cel_syntax.specs.Ahead.{tokens_left}
use Rattle.cel_syntax.proofs.grammar.Grammar.entries.Given as goal

abbrev pub invariant-loop-turn : goal.invariant-loop-turn
invariant-loop-turn g l = spec.entries l.self.limit (spec.below l.self.limit) (tokens_left l.fn.tokens)
    ≡ spec.items_from (spec.pair l.self.limit (spec.below l.self.limit)) (l._turn-end - l._turn) (map (λ p. (term p.0, term p.1)) l.found.items) l.high (tokens_left l.tokens)
