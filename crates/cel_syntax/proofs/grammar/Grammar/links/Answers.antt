use Rattle.std.proofs.Common.{◌+◌, rules, arith}
use Rattle.std.proofs.lemmas.Grind.{common_steps}
use Rattle.cel_syntax_ast.specs.Term.{term}
use Rattle.cel_syntax.specs.Parser as spec
use Rattle.cel_syntax.specs.Ahead.{tokens_left}
use Rattle.cel_syntax.proofs.Turns.{one_more, no_more}
use Rattle.cel_syntax.proofs.grammar.Grammar.links.Goals as goal
use Rattle.cel_syntax.proofs.grammar.Grammar.links.Goals.{then-eat+in_ok-found, else-eat+then-eat-2+in_ok-found-2}

pub returns-in_err-found : goal.returns-in_err-found
unfolding spec.links
returns-in_err-found g c =
    let e = one_more (λ n. spec.links c.args.self.now.limit (spec.below c.args.self.now.limit) n (term c.loop-turn.found.0) c.loop-turn.found.1 (tokens_left c.loop-turn.tokens)) (c.args.self.now.limit + 1) c.loop-turn._turn (omega (arith, c.from-turn-end.ensures)) c.loop-turn.invariant in
    first_of (search rules, grind (arith, common_steps))

pub returns-in_err-found-2 : goal.returns-in_err-found-2
unfolding spec.links
returns-in_err-found-2 g c =
    let e = one_more (λ n. spec.links c.args.self.now.limit (spec.below c.args.self.now.limit) n (term c.loop-turn.found.0) c.loop-turn.found.1 (tokens_left c.loop-turn.tokens)) (c.args.self.now.limit + 1) c.loop-turn._turn (omega (arith, c.from-turn-end.ensures)) c.loop-turn.invariant in
    first_of (search rules, grind (arith, common_steps))

pub returns-else-eat-2 : goal.returns-else-eat-2
unfolding spec.links
returns-else-eat-2 g c =
    let e = one_more (λ n. spec.links c.args.self.now.limit (spec.below c.args.self.now.limit) n (term c.loop-turn.found.0) c.loop-turn.found.1 (tokens_left c.loop-turn.tokens)) (c.args.self.now.limit + 1) c.loop-turn._turn (omega (arith, c.from-turn-end.ensures)) c.loop-turn.invariant in
    first_of (search rules, grind (arith, common_steps))

pub returns-then-sees : goal.returns-then-sees
unfolding spec.links
returns-then-sees g c =
    let e = no_more (λ n. spec.links c.args.self.now.limit (spec.below c.args.self.now.limit) n (term c.loop-turn.found.0) c.loop-turn.found.1 (tokens_left c.loop-turn.tokens)) (c.args.self.now.limit + 1) c.loop-turn._turn (omega (arith, c.from-turn-end.ensures)) c.loop-turn.invariant in
    first_of (search rules, grind (arith, common_steps))

pub returns : goal.returns
unfolding spec.links
returns g c =
    let e = no_more (λ n. spec.links c.args.self.now.limit (spec.below c.args.self.now.limit) n (term c.loop-turn.found.0) c.loop-turn.found.1 (tokens_left c.loop-turn.tokens)) (c.args.self.now.limit + 1) c.loop-turn._turn (omega (arith, c.from-turn-end.ensures)) c.loop-turn.invariant in
    first_of (search rules, grind (arith, common_steps))

pub loop-turn-preserved : goal.loop-turn-preserved
unfolding spec.links
loop-turn-preserved g c =
    let e = one_more (λ n. spec.links c.args.self.now.limit (spec.below c.args.self.now.limit) n (term c.loop-turn.found.0) c.loop-turn.found.1 (tokens_left c.loop-turn.tokens)) (c.args.self.now.limit + 1) c.loop-turn._turn (omega (arith, c.from-turn-end.ensures)) c.loop-turn.invariant in
    elim c.if-eat.branch [
      | then-eat+in_ok-found w ↦ first_of (search rules, grind (arith, common_steps))
      | else-eat+then-eat-2+in_ok-found-2 w ↦ first_of (search rules, grind (arith, common_steps))
    ]
