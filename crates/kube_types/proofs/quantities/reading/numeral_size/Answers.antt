use Rattle.std.proofs.Common.{◌≡◌, ◌*◌, ◌++◌, ◌∙◌, arith}
use Rattle.std.specs.Str.Parse.{digits_value}
use Rattle.kube_types.proofs.Quantity.Digits.{product_above}
use Rattle.kube_types.proofs.quantities.reading.numeral_size.Goals as goal

pub returns-in_err-digits : goal.returns-in_err-digits
returns-in_err-digits c =
    let total = digits_value 10 (c.args.whole.now ++ c.args.fraction.now) in
    rw c.from_residual.ensures (λ small. c.in_err-digits.ensures (omega (arith, small, product_above total c.args.times c.requires.positive)))

pub returns-in_err-size : goal.returns-in_err-size
returns-in_err-size c =
    let total = digits_value 10 (c.args.whole.now ++ c.args.fraction.now) in
    let times : c.from.result ≡ c.args.times = cc c.from.ensures in
    let product : c.in_ok-digits.digits * c.from.result ≡ total * c.args.times = λ i. c.in_ok-digits.ensures.1 i * times i in
    rw c.from_residual-in_err-size.ensures (λ small. c.in_err-size.ensures (omega (arith, small, product)))

pub returns-then-size : goal.returns-then-size
returns-then-size c =
    let total = digits_value 10 (c.args.whole.now ++ c.args.fraction.now) in
    let times : c.from.result ≡ c.args.times = cc c.from.ensures in
    let size : c.in_ok-size.size ≡ total * c.args.times = c.in_ok-size.ensures.1 ∙ (λ i. c.in_ok-digits.ensures.1 i * times i) in
    (omega (arith, c.if-size.true, size), size)

pub returns-else-size : goal.returns-else-size
returns-else-size c =
    let total = digits_value 10 (c.args.whole.now ++ c.args.fraction.now) in
    let times : c.from.result ≡ c.args.times = cc c.from.ensures in
    let size : c.in_ok-size.size ≡ total * c.args.times = c.in_ok-size.ensures.1 ∙ (λ i. c.in_ok-digits.ensures.1 i * times i) in
    λ small. omega (arith, c.if-size.false, size, small)
