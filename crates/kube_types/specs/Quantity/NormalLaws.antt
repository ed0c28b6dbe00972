-- Scaffolding: only proofs and private clauses cite it.
-- A number has exactly one normal form.
use Rattle.std.specs.Prelude.{◌≡◌, ℕ, zero, suc, ◌+◌, ◌-◌, ◌*◌, ◌%◌, ◌^◌, ◌≤◌, ◌&&◌, ◌==◌, ◌⊎◌, true, cond, ℤ, pos, negsuc, ◌+ℤ◌, unsigned_abs}
use Rattle.std.proofs.Common.{sym, ◌∙◌, ap, inl, inr, arith}
use Rattle.std.proofs.Math.Nat.{pow-suc, mul-mod_left, mul_assoc, eq_of_mul-eq-mul_right}
use Rattle.std.proofs.Math.IntN.{*ℤ-one, one}
use Rattle.std.proofs.lemmas.Int.{ints, unsigned_abs-mul}
use Rattle.std.proofs.lemmas.Bool.{eqb-true, eq-eqb}
use Rattle.std.specs.Cmp.{first_so, second_so}
use lib.Signed.{mag}
use Rattle.kube_types.specs.Quantity.Decimal.{Decimal, times_ten_to, aligned_mantissa, SameNumber}
use Rattle.kube_types.specs.Quantity.Normal.{is_normal, IsNormal}
use Rattle.kube_types.specs.Quantity.Scales.{power_pos, scale_gap, scale_above}

pub times_zero : (z : ℤ) → times_ten_to z 0 ≡ z
unfolding one
times_zero z = *ℤ-one z

-- a mantissa in normal form with a trailing zero is 0, and has the scale 0
pub normal_zero : (m s : ℤ) → is_normal m s ≡ true → unsigned_abs m % 10 ≡ 0
    → (unsigned_abs m ≡ 0) × (unsigned_abs s ≡ 0)
normal_zero m s normal ends =
    let test : (unsigned_abs m % 10 == 0) ≡ true = eq-eqb (unsigned_abs m % 10) 0 ends in
    let both : ((unsigned_abs m == 0) && (unsigned_abs s == 0)) ≡ true =
    ap (λ b. cond b ((unsigned_abs m == 0) && (unsigned_abs s == 0)) true) (sym test) ∙ normal in (
      eqb-true (unsigned_abs m) 0 (first_so (unsigned_abs m == 0) (unsigned_abs s == 0) both),
      eqb-true (unsigned_abs s) 0 (second_so (unsigned_abs m == 0) (unsigned_abs s == 0) both),
    )

zero_from_abs : (z : ℤ) → unsigned_abs z ≡ 0 → z ≡ pos 0
zero_from_abs (pos n) e = ap pos e
zero_from_abs (negsuc n) e = absurd (omega arith)

-- two normal forms of the same number are equal if the scale of the first is k above the other's
unique_above : (m n s t : ℤ) (k : ℕ) → is_normal m s ≡ true → is_normal n t ≡ true → s ≡ t +ℤ pos k
    → times_ten_to m k ≡ n → (m ≡ n) × (s ≡ t)
unique_above m n s t zero p q gap e = (sym (times_zero m) ∙ e, omega (arith, ints))
unique_above m n s t (suc j) p q gap e =
    let size : unsigned_abs n ≡ unsigned_abs m * 10 ^ suc j =
    ap unsigned_abs (sym e) ∙ unsigned_abs-mul m (pos (10 ^ suc j)) in
    let tens : unsigned_abs n ≡ unsigned_abs m * 10 ^ j * 10 =
    size ∙ ap (λ p. unsigned_abs m * p) (pow-suc 10 j) ∙ sym (mul_assoc (unsigned_abs m) (10 ^ j) 10) in
    let ends : unsigned_abs n % 10 ≡ 0 = ap (λ v. v % 10) tens ∙ mul-mod_left (unsigned_abs m * 10 ^ j) 10 in
    let zeros = normal_zero n t q ends in
    let none : unsigned_abs m ≡ 0 = eq_of_mul-eq-mul_right (10 ^ suc j) (power_pos (suc j)) (unsigned_abs m) 0
    (sym size ∙ zeros.0 ∙ omega arith) in
    let first = normal_zero m s p (ap (λ v. v % 10) none) in
    let s_is : s ≡ pos 0 = zero_from_abs s first.1 in
    let t_is : t ≡ pos 0 = zero_from_abs t zeros.1 in
    absurd (omega (arith, ints))

sides : (a b : ℕ) → (b ≤ a) ⊎ (a ≤ b)
sides zero b = inr (omega arith)
sides (suc a) zero = inl (omega arith)
sides (suc a) (suc b) = elim (sides a b) as (λ _. (suc b ≤ suc a) ⊎ (suc a ≤ suc b))
    [ inl h ↦ inl (omega arith) | inr h ↦ inr (omega arith) ]

-- a number has only one normal form
pub normal_unique : (x y : Decimal) → IsNormal x → IsNormal y → SameNumber x y
    → (x.mantissa ≡ y.mantissa) × (x.scale ≡ y.scale)
normal_unique x y p q e =
    let n = mag x.scale + mag y.scale in
    let a = scale_above n x.scale (omega arith) in
    let b = scale_above n y.scale (omega arith) in
    let left : aligned_mantissa x y ≡ times_ten_to x.mantissa (a.0 - b.0) =
    ap (times_ten_to x.mantissa) (scale_gap (negsuc n) x.scale y.scale a.0 b.0 a.1 b.1) in
    let right : aligned_mantissa y x ≡ times_ten_to y.mantissa (b.0 - a.0) =
    ap (times_ten_to y.mantissa) (scale_gap (negsuc n) y.scale x.scale b.0 a.0 b.1 a.1) in
    let same : times_ten_to x.mantissa (a.0 - b.0) ≡ times_ten_to y.mantissa (b.0 - a.0) =
    sym left ∙ e ∙ right in
    elim (sides a.0 b.0) as (λ _. (x.mantissa ≡ y.mantissa) × (x.scale ≡ y.scale)) [
      | inl h ↦
          let flat : b.0 - a.0 ≡ 0 = omega arith in
          let u = unique_above x.mantissa y.mantissa x.scale y.scale (a.0 - b.0) p q
          (omega (arith, ints, a.1, b.1, h))
          (same ∙ ap (times_ten_to y.mantissa) flat ∙ times_zero y.mantissa) in
          (u.0, u.1)
      | inr h ↦
          let flat : a.0 - b.0 ≡ 0 = omega arith in
          let u = unique_above y.mantissa x.mantissa y.scale x.scale (b.0 - a.0) q p
          (omega (arith, ints, a.1, b.1, h))
          (sym same ∙ ap (times_ten_to x.mantissa) flat ∙ times_zero x.mantissa) in
          (sym u.0, sym u.1)
    ]
