use Rattle.std.proofs.Common.{◌-◌, arith, length, sym, ◌∙◌}
use Rattle.cel_value.proofs.Shared.{lt_false, lt_true, rising_end, rising_more, rising_pair}
use Rattle.cel_value.proofs.value.shared.are_rising.Goals as goal

pub loop-at-init : goal.loop-at-init
loop-at-init c = (omega arith, rising_end c.args.keys.now (length c.args.keys.now - 1) (omega arith))

pub returns-then-not-is_below-clause-otherwise : goal.returns-then-not-is_below-clause-otherwise
returns-then-not-is_below-clause-otherwise c = λ e s.
    let m = c.loop-at.at - 1 in
    let below = rising_pair c.args.keys.now (m - 1) m c.index-keys-at.result c.index-keys-at-in-loop-at.result (omega (arith, c.loop-at-test.true)) (omega (arith, c.loop-at-test.true, c.loop-at.invariant.0)) c.index-keys-at.is c.index-keys-at-in-loop-at.is s in
    lt_false _ below (sym c.is_below.ensures ∙ c.if-not-is_below.true)

pub loop-at-preserved : goal.loop-at-preserved
loop-at-preserved c =
    let m = c.loop-at.at - 1 in (
      omega (arith, c.loop-at.invariant.0),
      rising_more c.args.keys.now (m - 1) m c.index-keys-at.result c.index-keys-at-in-loop-at.result (omega (arith, c.loop-at-test.true)) (omega (arith, c.loop-at-test.true, c.loop-at.invariant.0)) c.index-keys-at.is c.index-keys-at-in-loop-at.is
          (lt_true _ (sym c.is_below.ensures ∙ c.if-not-is_below.false)) c.loop-at.invariant.1,
    )
