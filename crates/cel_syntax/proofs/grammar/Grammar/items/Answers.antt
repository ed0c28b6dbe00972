use Rattle.std.proofs.Common.{rules, arith, map}
use Rattle.std.proofs.lemmas.Grind.{common_steps}
use Rattle.std.proofs.lemmas.List.{map-append}
use Rattle.cel_syntax_ast.specs.Term.{term}
use Rattle.cel_syntax.specs.Parser as spec
use Rattle.cel_syntax.specs.Ahead.{tokens_left}
use Rattle.cel_syntax.proofs.Turns.{one_more, no_more}
use Rattle.cel_syntax.proofs.grammar.Grammar.items.Goals as goal

pub returns-in_err-item : goal.returns-in_err-item
unfolding spec.items_from
returns-in_err-item g c =
    let e = one_more (λ n. spec.items_from (spec.below c.args.self.now.limit) n (map term c.loop-turn.found.items) c.loop-turn.high (tokens_left c.loop-turn.tokens)) _ c.loop-turn._turn c.loop-turn-test.true c.loop-turn.invariant in
    first_of (search (rules, map-append), grind (arith, common_steps, map-append))

pub returns-then-not-goes_on : goal.returns-then-not-goes_on
unfolding spec.items_from
returns-then-not-goes_on g c =
    let e = one_more (λ n. spec.items_from (spec.below c.args.self.now.limit) n (map term c.loop-turn.found.items) c.loop-turn.high (tokens_left c.loop-turn.tokens)) _ c.loop-turn._turn c.loop-turn-test.true c.loop-turn.invariant in
    first_of (search (rules, map-append), grind (arith, common_steps, map-append))

pub loop-turn-preserved : goal.loop-turn-preserved
unfolding spec.items_from
loop-turn-preserved g c =
    let e = one_more (λ n. spec.items_from (spec.below c.args.self.now.limit) n (map term c.loop-turn.found.items) c.loop-turn.high (tokens_left c.loop-turn.tokens)) _ c.loop-turn._turn c.loop-turn-test.true c.loop-turn.invariant in
    first_of (search (rules, map-append), grind (arith, common_steps, map-append))

pub returns : goal.returns
unfolding spec.items_from
returns g c =
    let e = no_more (λ n. spec.items_from (spec.below c.args.self.now.limit) n (map term c.loop-turn.found.items) c.loop-turn.high (tokens_left c.loop-turn.tokens)) _ c.loop-turn._turn c.loop-turn-test.false c.loop-turn.invariant in
    first_of (search (rules, map-append), grind (arith, common_steps, map-append))

pub loop-turn-init : goal.loop-turn-init
unfolding spec.items spec.items_of
loop-turn-init g c = first_of (search rules, grind (arith, common_steps))

pub returns-then-sees_end : goal.returns-then-sees_end
unfolding spec.items spec.items_of
returns-then-sees_end g c = first_of (search rules, grind (arith, common_steps))
