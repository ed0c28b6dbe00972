-- The distance between two scales, and mantissas converted across it.
use Rattle.std.proofs.Common.{◌≡◌, ℤ, pos, negsuc, ◌-ℤ◌, ◌≤ℤ◌, refl, sym, ◌∙◌, ap, arith}
use Rattle.std.proofs.lemmas.Cmp.{int_cmp_total}
use Rattle.std.proofs.lemmas.Int.{ints}
use Rattle.std.specs.Ordering.{int_cmp, ordering_reverse}
use Rattle.std.specs.Prelude.{unsigned_abs}
use Rattle.kube_types.specs.Quantity.Decimal.{Decimal, natural, times_ten_to, aligned_mantissa, decimal_cmp}
use Rattle.kube_types.specs.Quantity.NormalLaws.{times_zero}

natural_abs : (z : ℤ) → pos 0 ≤ℤ z → natural z ≡ unsigned_abs z
natural_abs (pos n) h = refl
natural_abs (negsuc n) h = absurd (omega (arith, ints))

pub natural_none : (z : ℤ) → z ≤ℤ pos 0 → natural z ≡ 0
natural_none (pos n) h = omega (arith, ints)
natural_none (negsuc n) h = refl

-- the mantissa at the smaller scale is unchanged
pub aligned_low : (x y : Decimal) → x.scale ≤ℤ y.scale → aligned_mantissa x y ≡ x.mantissa
aligned_low x y h = ap (times_ten_to x.mantissa) (natural_none (x.scale -ℤ y.scale) (omega (arith, ints))) ∙ times_zero x.mantissa

-- the mantissa at the larger scale is multiplied
pub aligned_high : (x y : Decimal) → y.scale ≤ℤ x.scale → aligned_mantissa x y ≡ times_ten_to x.mantissa (unsigned_abs (x.scale -ℤ y.scale))
aligned_high x y h = ap (times_ten_to x.mantissa) (natural_abs (x.scale -ℤ y.scale) (omega (arith, ints)))

turned : (s t : ℤ) → unsigned_abs (s -ℤ t) ≡ unsigned_abs (t -ℤ s)
turned s t = omega (arith, ints)

pub compared_above : (x y : Decimal) → y.scale ≤ℤ x.scale
    → int_cmp (times_ten_to x.mantissa (unsigned_abs (x.scale -ℤ y.scale))) y.mantissa ≡ decimal_cmp x y
compared_above x y h = ap (λ z. int_cmp z y.mantissa) (sym (aligned_high x y h)) ∙ ap (int_cmp (aligned_mantissa x y)) (sym (aligned_low y x h))

pub compared_below : (x y : Decimal) → x.scale ≤ℤ y.scale
    → ordering_reverse (int_cmp (times_ten_to y.mantissa (unsigned_abs (x.scale -ℤ y.scale))) x.mantissa) ≡ decimal_cmp x y
compared_below x y h =
    ap (λ k. ordering_reverse (int_cmp (times_ten_to y.mantissa k) x.mantissa)) (turned x.scale y.scale)
    ∙ ap ordering_reverse (compared_above y x h) ∙ sym (int_cmp_total.antisymm (aligned_mantissa x y) (aligned_mantissa y x))
