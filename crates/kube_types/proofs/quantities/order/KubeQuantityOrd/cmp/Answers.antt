use Rattle.std.proofs.Common.{◌≡◌, ◌≤ℤ◌, ◌-ℤ◌, ◌∙◌, ap, arith, rules, FitsSigned}
use Rattle.std.proofs.lemmas.Int.{ints, to_z-of_z}
use Rattle.std.specs.Int.{w32, w128}
use Rattle.std.specs.Ordering.{int_cmp, ordering_reverse}
use Rattle.std.specs.Prelude.{unsigned_abs}
use Rattle.kube_types.specs.Quantity.Decimal.{times_ten_to}
use Rattle.kube_types.specs.Quantity.Shown.{number}
use Rattle.kube_types.proofs.Quantity.Gaps.{compared_above, compared_below}
use Rattle.kube_types.proofs.quantities.order.KubeQuantityOrd.cmp.Goals as goal

pub returns-then-self-other : goal.returns-then-self-other
returns-then-self-other c =
    let a = c.args.self.now in
    let b = c.args.other.now in
    let a_fits : FitsSigned w128 a.mantissa = search rules in
    let b_fits : FitsSigned w128 b.mantissa = search rules in
    let s_fits : FitsSigned w32 a.scale = search rules in
    let t_fits : FitsSigned w32 b.scale = search rules in
    let gap = simp to_z-of_z at c.abs_diff-places.ensures in
    let compared = simp to_z-of_z at c.compare_scaled.ensures in
    let below : a.scale ≤ℤ b.scale = omega (arith, ints) in
    let places : c.abs_diff-places.result ≡ unsigned_abs (a.scale -ℤ b.scale) = gap in
    c.reverse.ensures ∙ ap ordering_reverse (compared ∙ ap (λ k. int_cmp (times_ten_to b.mantissa k) a.mantissa) places)
    ∙ compared_below (number a) (number b) below

pub returns-else-self-other : goal.returns-else-self-other
returns-else-self-other c =
    let a = c.args.self.now in
    let b = c.args.other.now in
    let a_fits : FitsSigned w128 a.mantissa = search rules in
    let b_fits : FitsSigned w128 b.mantissa = search rules in
    let s_fits : FitsSigned w32 a.scale = search rules in
    let t_fits : FitsSigned w32 b.scale = search rules in
    let gap = simp to_z-of_z at c.abs_diff-places.ensures in
    let compared = simp to_z-of_z at c.compare_scaled-else-self-other.ensures in
    let above : b.scale ≤ℤ a.scale = omega (arith, ints) in
    let places : c.abs_diff-places.result ≡ unsigned_abs (a.scale -ℤ b.scale) = gap in
    compared ∙ ap (λ k. int_cmp (times_ten_to a.mantissa k) b.mantissa) places ∙ compared_above (number a) (number b) above
