use Rattle.std.proofs.Common.{◌≡◌, ◌+◌, false, refl, rules, arith, add-one}
use Rattle.std.proofs.lemmas.Grind.{common_steps}
use Rattle.cel_syntax_ast.specs.Term.{term}
use Rattle.cel_syntax.specs.Parser as spec
use Rattle.cel_syntax.specs.Ahead.{tokens_left, sees_operator}
use Rattle.cel_syntax.specs.Climb.{climb}
use Rattle.cel_syntax.proofs.Climbs.{chain_climbs, nothing_climbs}
use Rattle.cel_syntax.proofs.Turns.{one_more, no_more, deeper}
use Rattle.cel_syntax.proofs.grammar.Grammar.+operators.Goals as goal

pub chain-returns-in_err-found : goal.chain-returns-in_err-found
chain-returns-in_err-found g t c =
    rw (chain_climbs c.args.self.now.limit (spec.below c.args.self.now.limit) c.args.level (tokens_left c.args.tokens.now)) (first_of (search rules, grind (arith, common_steps)))

pub chain-returns-then-not-sees_operator : goal.chain-returns-then-not-sees_operator
chain-returns-then-not-sees_operator g t c =
    let sub = spec.below c.args.self.now.limit in
    let none : sees_operator (tokens_left c.unary_expression.new.tokens) ≡ false = first_of (search rules, grind (arith, common_steps)) in
    rw (chain_climbs c.args.self.now.limit sub c.args.level (tokens_left c.args.tokens.now), c.in_ok-found.ensures)
    (nothing_climbs c.args.self.now.limit sub c.args.level (term c.in_ok-found.found.0, c.in_ok-found.found.1) (tokens_left c.unary_expression.new.tokens) none)

pub chain-returns : goal.chain-returns
chain-returns g t c =
    rw (chain_climbs c.args.self.now.limit (spec.below c.args.self.now.limit) c.args.level (tokens_left c.args.tokens.now), c.in_ok-found.ensures) c.climb.ensures

pub climb-returns-then-level-eq0 : goal.climb-returns-then-level-eq0
unfolding climb
climb-returns-then-level-eq0 g t c = let none : c.args.level ≡ 0 = omega arith in rw none refl

pub climb-returns-in_err-found : goal.climb-returns-in_err-found
unfolding climb
climb-returns-in_err-found g t c =
    rw (deeper (λ n. climb c.args.self.now.limit (spec.below c.args.self.now.limit) n (term c.args.found.0, c.args.found.1) (tokens_left c.args.tokens.now)) c.args.level (omega arith)) (first_of (search rules, grind (arith, common_steps)))

pub climb-returns : goal.climb-returns
unfolding climb
climb-returns g t c =
    let rest = rw add-one at c.turns.ensures in
    rw (deeper (λ n. climb c.args.self.now.limit (spec.below c.args.self.now.limit) n (term c.args.found.0, c.args.found.1) (tokens_left c.args.tokens.now)) c.args.level (omega arith), c.in_ok-found.ensures) rest

pub turns-returns-in_default : goal.turns-returns-in_default
unfolding spec.turns
turns-returns-in_default g t c =
    let e = one_more (λ n. spec.turns c.args.self.now.limit (spec.below c.args.self.now.limit) (spec.chain c.args.self.now.limit (spec.below c.args.self.now.limit) c.args.below) (c.args.below + 1) n (term c.loop-turn.found.0) c.loop-turn.found.1 (tokens_left c.loop-turn.tokens)) _ c.loop-turn._turn c.loop-turn-test.true c.loop-turn.invariant in
    first_of (search rules, grind (arith, common_steps))

pub turns-returns-in_err-found : goal.turns-returns-in_err-found
unfolding spec.turns
turns-returns-in_err-found g t c =
    let e = one_more (λ n. spec.turns c.args.self.now.limit (spec.below c.args.self.now.limit) (spec.chain c.args.self.now.limit (spec.below c.args.self.now.limit) c.args.below) (c.args.below + 1) n (term c.loop-turn.found.0) c.loop-turn.found.1 (tokens_left c.loop-turn.tokens)) _ c.loop-turn._turn c.loop-turn-test.true c.loop-turn.invariant in
    first_of (search rules, grind (arith, common_steps))

pub turns-loop-turn-preserved : goal.turns-loop-turn-preserved
unfolding spec.turns
turns-loop-turn-preserved g t c =
    let e = one_more (λ n. spec.turns c.args.self.now.limit (spec.below c.args.self.now.limit) (spec.chain c.args.self.now.limit (spec.below c.args.self.now.limit) c.args.below) (c.args.below + 1) n (term c.loop-turn.found.0) c.loop-turn.found.1 (tokens_left c.loop-turn.tokens)) _ c.loop-turn._turn c.loop-turn-test.true c.loop-turn.invariant in
    first_of (search rules, grind (arith, common_steps))

pub turns-returns-in-Some-operator : goal.turns-returns-in-Some-operator
unfolding spec.turns
turns-returns-in-Some-operator g t c =
    let e = no_more (λ n. spec.turns c.args.self.now.limit (spec.below c.args.self.now.limit) (spec.chain c.args.self.now.limit (spec.below c.args.self.now.limit) c.args.below) (c.args.below + 1) n (term c.loop-turn.found.0) c.loop-turn.found.1 (tokens_left c.loop-turn.tokens)) _ c.loop-turn._turn c.loop-turn-test.false c.loop-turn.invariant in
    first_of (search rules, grind (arith, common_steps))

pub turns-returns-in-None : goal.turns-returns-in-None
unfolding spec.turns
turns-returns-in-None g t c =
    let e = no_more (λ n. spec.turns c.args.self.now.limit (spec.below c.args.self.now.limit) (spec.chain c.args.self.now.limit (spec.below c.args.self.now.limit) c.args.below) (c.args.below + 1) n (term c.loop-turn.found.0) c.loop-turn.found.1 (tokens_left c.loop-turn.tokens)) _ c.loop-turn._turn c.loop-turn-test.false c.loop-turn.invariant in
    first_of (search rules, grind (arith, common_steps))
