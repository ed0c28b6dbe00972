-- When a number in normal form is an integer.
use Rattle.std.proofs.Common.{◌≡◌, suc, ◌+◌, ◌*◌, ◌%◌, ◌^◌, true, false, ℤ, pos, negsuc, ◌-ℤ◌, sym, ◌∙◌, ap, arith}
use Rattle.std.proofs.Math.Nat.{mul-mod_left}
use Rattle.std.proofs.lemmas.Int.{ints, unsigned_abs-mul}
use Rattle.std.specs.Int.{is_negative}
use Rattle.std.specs.Prelude.{unsigned_abs}
use Rattle.kube_types.specs.Quantity.Decimal.{natural, times_ten_to, SameNumber}
use Rattle.kube_types.specs.Quantity.Normal.{is_normal}
use Rattle.kube_types.specs.Quantity.NormalLaws.{times_zero, normal_zero}
use Rattle.kube_types.specs.Quantity.Sums.{decimal_at}
use Rattle.kube_types.proofs.Quantity.Forms.{ltb_none}
use Rattle.kube_types.proofs.Quantity.Gaps.{natural_none}
use Rattle.kube_types.proofs.Quantity.Zeros.{power_out}

pub whole_from : (m s z : ℤ) → is_normal m s ≡ true → SameNumber (decimal_at m s) (decimal_at z (pos 0)) → (is_negative s ≡ false) × (z ≡ times_ten_to m (natural s))
whole_from m (pos k) z p e =
    let none : natural (pos 0 -ℤ pos k) ≡ 0 = natural_none (pos 0 -ℤ pos k) (omega (arith, ints)) in
    let all : k + 0 ≡ k = omega arith in
    (ltb_none k, sym (times_zero z) ∙ ap (times_ten_to z) (sym none) ∙ sym e ∙ ap (times_ten_to m) all)
whole_from m (negsuc n) z p e =
    let none : natural (negsuc n -ℤ pos 0) ≡ 0 = natural_none (negsuc n -ℤ pos 0) (omega (arith, ints)) in
    let more : 0 + suc n ≡ suc n = omega arith in
    let product : m ≡ times_ten_to z (suc n) = sym (times_zero m) ∙ ap (times_ten_to m) (sym none) ∙ e ∙ ap (times_ten_to z) more in
    let size : unsigned_abs m ≡ unsigned_abs z * 10 ^ suc n = ap unsigned_abs product ∙ unsigned_abs-mul z (pos (10 ^ suc n)) in
    let ends : unsigned_abs m % 10 ≡ 0 = ap (λ v. v % 10) (size ∙ power_out (unsigned_abs z) n) ∙ mul-mod_left (unsigned_abs z * 10 ^ n) 10 in
    absurd (omega (arith, (normal_zero m (negsuc n) p ends).1))

pub whole_to : (m s z : ℤ) → is_negative s ≡ false → z ≡ times_ten_to m (natural s) → SameNumber (decimal_at m s) (decimal_at z (pos 0))
whole_to m (pos k) z p e =
    let none : natural (pos 0 -ℤ pos k) ≡ 0 = natural_none (pos 0 -ℤ pos k) (omega (arith, ints)) in
    let all : k + 0 ≡ k = omega arith in
    ap (times_ten_to m) all ∙ sym e ∙ sym (times_zero z) ∙ ap (times_ten_to z) (sym none)
whole_to m (negsuc n) z p e = cc
