use Rattle.std.proofs.Common.{◌≡◌, ◌*◌, ◌<◌, ◌^◌, ◌++◌, ◌∙◌, ap, arith, rules, FitsSigned}
use Rattle.std.proofs.lemmas.Grind.{common_steps}
use Rattle.std.proofs.lemmas.Int.{to_z-of_z}
use Rattle.std.specs.Int.{w32, w128}
use Rattle.std.specs.Prelude.{Some}
use Rattle.std.specs.Str.Parse.{digits_value, starts_with_minus, without_leading_sign}
use Rattle.kube_types.specs.Quantity.Reading.{factor_of, quantity_of, unsigned_quantity, value_of}
use Rattle.kube_types.proofs.Quantity.Digits.{leading_are_digits}
use Rattle.kube_types.proofs.Quantity.Meanings.{fraction_are_digits, meaning_is, Parts}
use Rattle.kube_types.proofs.quantities.quantity.KubeQuantity.read.Goals as goal

pub numeral_size-requires-clause-whole_digits : goal.numeral_size-requires-clause-whole_digits
numeral_size-requires-clause-whole_digits c = rw c.split_numeral-numeral.ensures.whole (leading_are_digits c.split_sign-negative.result.1.now)

pub numeral_size-requires-clause-fraction_digits : goal.numeral_size-requires-clause-fraction_digits
numeral_size-requires-clause-fraction_digits c = rw c.split_numeral-numeral.ensures.fraction (fraction_are_digits c.split_sign-negative.result.1.now)

pub returns-then-numeral-eq0 : goal.returns-then-numeral-eq0
unfolding quantity_of unsigned_quantity value_of
returns-then-numeral-eq0 c = search rules

pub returns-in_err-factor : goal.returns-in_err-factor
unfolding quantity_of unsigned_quantity value_of
returns-in_err-factor c = search rules

pub returns-in_err-size : goal.returns-in_err-size
unfolding quantity_of unsigned_quantity value_of
returns-in_err-size c = grind (arith, common_steps)

pub returns-in_err-mantissa : goal.returns-in_err-mantissa
unfolding quantity_of unsigned_quantity value_of
returns-in_err-mantissa c = search rules

pub returns : goal.returns
returns c =
    let numeral = c.split_numeral-numeral.result in
    let negative = c.split_sign-negative.result.0 in
    let unsigned = c.split_sign-negative.result.1.now in
    let factor = c.in_ok-factor.factor in
    let trimmed = c.as_bytes.ensures.value ∙ c.trim.ensures.trim in
    let parts : Parts c.args.text.now negative unsigned numeral.whole.now numeral.fraction.now numeral.suffix.now = record {
      sign = c.split_sign-negative.ensures.negative ∙ ap starts_with_minus trimmed;
      rest = c.split_sign-negative.ensures.rest ∙ ap without_leading_sign trimmed;
      before = c.split_numeral-numeral.ensures.whole;
      after = c.split_numeral-numeral.ensures.fraction;
      last = c.split_numeral-numeral.ensures.suffix;
    } in
    let m_fits : FitsSigned w128 c.in_ok-mantissa.mantissa = search rules in
    let s_fits : FitsSigned w128 c.scale_of.result = search rules in
    let t_fits : FitsSigned w32 factor.tens = search rules in
    let scale = simp to_z-of_z at c.scale_of.ensures.value in
    let normal = simp to_z-of_z at c.normalised.ensures in
    let size : c.in_ok-size.size ≡ digits_value 10 (numeral.whole.now ++ numeral.fraction.now) * factor.times = c.in_ok-size.ensures.1 in
    let bound : c.in_ok-size.size < 2 ^ 127 = omega (arith, c.in_ok-size.ensures.0, size) in
    let found : Some factor ≡ factor_of numeral.suffix.now = c.in_ok-factor.ensures.value in
    normal ∙ meaning_is c.args.text.now negative unsigned numeral.whole.now numeral.fraction.now numeral.suffix.now factor c.in_ok-size.size c.in_ok-mantissa.mantissa c.scale_of.result
    parts (λ none. c.if-numeral-eq0.false none) found size bound c.in_ok-mantissa.ensures.1 scale
