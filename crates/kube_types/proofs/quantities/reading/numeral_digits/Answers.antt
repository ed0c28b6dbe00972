use Rattle.std.proofs.Common.{◌≡◌, ◌<◌, ◌^◌, ◌++◌, sym, ap, ◌∙◌, subst, ℕ, arith}
use Rattle.std.specs.Option.{SomeIff}
use Rattle.std.specs.Str.Parse.{digits_value, digits_value_after}
use Rattle.kube_types.proofs.Quantity.Digits.{value_joined, value_after_above}
use Rattle.kube_types.proofs.quantities.reading.numeral_digits.Goals as goal

pub returns-in_err-start : goal.returns-in_err-start
returns-in_err-start c =
    let whole = c.args.whole.now in
    let fraction = c.args.fraction.now in
    rw c.from_residual.ensures (λ small. c.in_err-start.ensures (omega (arith, small, value_joined whole fraction, value_after_above (digits_value_after 10 0 whole) fraction)))

pub returns : goal.returns
returns c =
    let whole = c.args.whole.now in
    let fraction = c.args.fraction.now in
    let same : digits_value_after 10 c.in_ok-start.start fraction ≡ digits_value 10 (whole ++ fraction) = ap (λ v. digits_value_after 10 v fraction) c.in_ok-start.ensures.1 ∙ sym (value_joined whole fraction) in
    let P : ℕ → Type 0 = λ n. SomeIff c.digits_number-2.result (n < 2 ^ 127) n in
    subst P same c.digits_number-2.ensures
