use Rattle.std.proofs.Common.{◌≡◌, ◌≤ℤ◌, ℤ, sym, ◌∙◌, subst, arith, rules, FitsSigned}
use Rattle.std.proofs.lemmas.Int.{ints, to_z-of_z}
use Rattle.std.specs.Int.{w128}
use Rattle.kube_types.specs.Quantity.Decimal.{aligned_mantissa}
use Rattle.kube_types.specs.Quantity.Shown.{number}
use Rattle.kube_types.proofs.Quantity.Gaps.{aligned_low}
use Rattle.kube_types.proofs.quantities.quantity.KubeQuantity.aligned_to.Goals as goal

pub returns-then-self-other : goal.returns-then-self-other
returns-then-self-other c =
    let a = c.args.self.now in
    let b = c.args.other.now in
    let fits : FitsSigned w128 a.mantissa = search rules in
    let below : a.scale ≤ℤ b.scale = omega (arith, ints) in
    let e : aligned_mantissa (number a) (number b) ≡ a.mantissa = aligned_low (number a) (number b) below in
    let P : ℤ → Type 0 = λ z. FitsSigned w128 z in
    (subst P (sym e) fits, to_z-of_z w128 a.mantissa fits ∙ sym e)
