use Rattle.std.proofs.Common.{◌≡◌, ◌+◌, ◌*◌, drop, ap, ◌∙◌, arith}
use Rattle.std.proofs.lemmas.Str.Parse.{digit_at}
use Rattle.std.specs.Str.Parse.{digits_value_after}
use Rattle.kube_types.proofs.Quantity.Digits.{turn_of}
use Rattle.kube_types.proofs.quantities.reading.digits_number.Goals as goal

pub overflow_sub-digit : goal.overflow_sub-digit
overflow_sub-digit c = (digit_at c.args.digits.now c.loop-digit.digit-index c.requires c.loop-digit-test.true).0

pub loop-digit-preserved : goal.loop-digit-preserved
loop-digit-preserved c =
    let turn = turn_of c.loop-digit.number c.loop-digit.digit-index c.from-next.result c.args.digits.now (digits_value_after 10 c.args.start c.args.digits.now) c.loop-digit-test.true c.requires c.from-next.ensures c.loop-digit.invariant in
    let number_is : c.in_ok-number.number ≡ c.loop-digit.number * 10 + c.from-next.result = omega (arith, c.in_ok-number.ensures.1, c.in_ok-checked_mul.ensures.1) in
    ap (λ v. digits_value_after 10 v (drop (c.loop-digit.digit-index + 1) c.args.digits.now)) number_is ∙ turn.left

pub returns-in_err-checked_mul : goal.returns-in_err-checked_mul
returns-in_err-checked_mul c =
    let turn = turn_of c.loop-digit.number c.loop-digit.digit-index c.from-next.result c.args.digits.now (digits_value_after 10 c.args.start c.args.digits.now) c.loop-digit-test.true c.requires c.from-next.ensures c.loop-digit.invariant in
    rw c.from_residual.ensures (λ small. c.in_err-checked_mul.ensures (omega (arith, turn.above, small)))

pub returns-in_err-number : goal.returns-in_err-number
returns-in_err-number c =
    let turn = turn_of c.loop-digit.number c.loop-digit.digit-index c.from-next.result c.args.digits.now (digits_value_after 10 c.args.start c.args.digits.now) c.loop-digit-test.true c.requires c.from-next.ensures c.loop-digit.invariant in
    rw c.from_residual-in_err-number.ensures (λ small. c.in_err-number.ensures (omega (arith, turn.above, small, c.in_ok-checked_mul.ensures.1)))
