use Rattle.std.proofs.Common.{◌≡◌, ◌*◌, ◌/◌, ◌^◌, pos, sym, ◌∙◌, ap, arith, to_z, of_z}
use Rattle.std.proofs.lemmas.Int.{ints, to_z-of_z}
use Rattle.std.specs.Int.{is_negative, w128}
use Rattle.std.specs.Prelude.{unsigned_abs}
use Rattle.kube_types.specs.Quantity.Decimal.{with_sign}
use Rattle.kube_types.specs.Quantity.Normal.{trailing_zeros, mantissa_without_zeros}
use Rattle.kube_types.proofs.Quantity.Zeros.{trailing_are, trailing_of_zero, shorter_is}
use Rattle.kube_types.proofs.quantities.normal.reduced.Goals as goal

pub returns-then-mantissa-eq0-clause-zeros : goal.returns-then-mantissa-eq0-clause-zeros
returns-then-mantissa-eq0-clause-zeros c =
    let none : c.args.mantissa ≡ pos 0 = omega (arith, ints) in
    sym (ap (λ z. trailing_zeros (unsigned_abs z)) none ∙ trailing_of_zero)

pub returns-clause-zeros : goal.returns-clause-zeros
returns-clause-zeros c =
    let m = c.args.mantissa in
    let cut = c.without_trailing_zeros-size in
    let back : to_z w128 (of_z w128 m) ≡ m = to_z-of_z w128 m c.ranges.mantissa in
    let whole : unsigned_abs m ≡ cut.result.0 * 10 ^ cut.result.1 = ap unsigned_abs (sym back) ∙ sym c.unsigned_abs.ensures.value ∙ cut.ensures.product in
    sym (trailing_are (unsigned_abs m) cut.result.0 cut.result.1 whole cut.ensures.last_digit)

pub returns-clause-value : goal.returns-clause-value
returns-clause-value c =
    let m = c.args.mantissa in
    let cut = c.without_trailing_zeros-size in
    let back : to_z w128 (of_z w128 m) ≡ m = to_z-of_z w128 m c.ranges.mantissa in
    let whole : unsigned_abs m ≡ cut.result.0 * 10 ^ cut.result.1 = ap unsigned_abs (sym back) ∙ sym c.unsigned_abs.ensures.value ∙ cut.ensures.product in
    let zeros = trailing_are (unsigned_abs m) cut.result.0 cut.result.1 whole cut.ensures.last_digit in
    let short : mantissa_without_zeros m ≡ with_sign (is_negative m) cut.result.0 =
    ap (λ k. with_sign (is_negative m) (unsigned_abs m / 10 ^ k)) zeros
    ∙ ap (with_sign (is_negative m)) (shorter_is (unsigned_abs m) cut.result.0 cut.result.1 whole) in
    let flag : c.is_negative.result ≡ is_negative m = c.is_negative.ensures ∙ ap is_negative back in
    let signed = rw c.unwrap.ensures at c.signed.ensures in
    ap (λ z. to_z w128 (of_z w128 z)) signed.1 ∙ to_z-of_z w128 (with_sign c.is_negative.result cut.result.0) signed.0
    ∙ ap (λ b. with_sign b cut.result.0) flag ∙ sym short
