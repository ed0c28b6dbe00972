use Rattle.std.proofs.Common.{◌≡◌, sym, ◌∙◌, arith, true, false}
use Rattle.cel_syntax.specs.Ahead.{sees_sign}
use Rattle.cel_syntax.specs.Ahead.{tokens_left}
use Rattle.cel_syntax.proofs.Signs.{stops, goes, ended}
use Rattle.cel_syntax.proofs.cursor.Cursor.signs.Goals as goal

pub returns-then-not-sees_sign-clause-count : goal.returns-then-not-sees_sign-clause-count
returns-then-not-sees_sign-clause-count c =
    let no : sees_sign c.args.sign (tokens_left c.loop-turn.self) ≡ false = grind arith in
    let h = stops c.args.sign (tokens_left c.loop-turn.self) no in
    omega (arith, h.0, c.loop-turn.invariant.0)

pub returns-then-not-sees_sign-clause-rest : goal.returns-then-not-sees_sign-clause-rest
returns-then-not-sees_sign-clause-rest c =
    let no : sees_sign c.args.sign (tokens_left c.loop-turn.self) ≡ false = grind arith in
    let h = stops c.args.sign (tokens_left c.loop-turn.self) no in
    sym (c.loop-turn.invariant.1 ∙ h.1)

pub loop-turn-preserved : goal.loop-turn-preserved
loop-turn-preserved c =
    let yes : sees_sign c.args.sign (tokens_left c.loop-turn.self) ≡ true = grind arith in
    let h = goes c.args.sign (tokens_left c.loop-turn.self) (tokens_left c.next-sign.new.self) yes c.next-sign.ensures.rest in
    (omega (arith, h.0, c.loop-turn.invariant.0), c.loop-turn.invariant.1 ∙ h.1, omega (arith, h.2, c.loop-turn.invariant.2))

pub returns-clause-count : goal.returns-clause-count
returns-clause-count c =
    let h = ended c.args.sign (tokens_left c.loop-turn.self) (omega (arith, c.loop-turn.invariant.2)) in
    omega (arith, h.0, c.loop-turn.invariant.0, c.loop-turn.invariant.2)

pub returns-clause-rest : goal.returns-clause-rest
returns-clause-rest c =
    let h = ended c.args.sign (tokens_left c.loop-turn.self) (omega (arith, c.loop-turn.invariant.2)) in
    sym (c.loop-turn.invariant.1 ∙ h.1)
