-- Scaffolding: only proofs and private clauses cite it.
-- Integers times powers of ten, and comparing numbers at a common scale.
use Rattle.std.proofs.Common.{◌≡◌, ℕ, zero, suc, ◌+◌, ◌-◌, ◌*◌, ◌^◌, ◌<◌, ◌≤◌, min, ℤ, pos, negsuc, neg_ℤ, ◌+ℤ◌, ◌-ℤ◌, ◌*ℤ◌, ◌<ℤ◌, refl, sym, ◌∙◌, ap, arith}
use Rattle.std.proofs.Math.Nat.{mul-lt-mul_of_pos_right, mul_assoc, min_comm, one-le-pow}
use Rattle.std.proofs.lemmas.Nat.{pow-add}
use Rattle.std.proofs.lemmas.Int.{ints}
use Rattle.std.proofs.lemmas.Cmp.{int_ranked, int_cmp_total}
use Rattle.std.specs.Cmp.{int_cmp_is, IsTotalOrder}
use Rattle.std.specs.Ordering.{MatchOrdering, int_cmp}
use Rattle.std.specs.declared.cmp.Ordering.{Ordering}
use Rattle.std.specs.declared.cmp.Ordering.TheVariants.{Less, Equal, Greater}
use borrow.Author.Differences.{up, down, same_in, lt_in, lt_out}
use lib.Signed.{mag}
use Rattle.kube_types.specs.Quantity.Decimal.{Decimal, natural, times_ten_to, aligned_mantissa, decimal_cmp}

neg_parts : (n : ℕ) → (up (neg_ℤ (pos n)) ≡ 0) × (down (neg_ℤ (pos n)) ≡ n)
neg_parts zero = (refl, refl)
neg_parts (suc n) = (refl, refl)

-- the positive and the negative part of a product
pub product_parts : (z : ℤ) (k : ℕ) → (up (z *ℤ pos k) ≡ up z * k) × (down (z *ℤ pos k) ≡ down z * k)
product_parts (pos a) k = (refl, omega arith)
product_parts (negsuc a) k = ((neg_parts (suc a * k)).0 ∙ omega arith, (neg_parts (suc a * k)).1)

pub power_pos : (k : ℕ) → 0 < 10 ^ k
power_pos k = omega (arith, one-le-pow k 10 (omega arith))

pub times_times : (z : ℤ) (j k : ℕ) → times_ten_to (times_ten_to z j) k ≡ times_ten_to z (j + k)
times_times z j k =
    let outer = product_parts (times_ten_to z j) (10 ^ k) in
    let inner = product_parts z (10 ^ j) in
    let whole = product_parts z (10 ^ (j + k)) in
    let power : 10 ^ (j + k) ≡ 10 ^ j * 10 ^ k = pow-add 10 j k in
    let ups : up (times_ten_to (times_ten_to z j) k) ≡ up (times_ten_to z (j + k)) =
    outer.0 ∙ ap (λ n. n * 10 ^ k) inner.0 ∙ mul_assoc (up z) (10 ^ j) (10 ^ k)
    ∙ ap (λ n. up z * n) (sym power) ∙ sym whole.0 in
    let downs : down (times_ten_to (times_ten_to z j) k) ≡ down (times_ten_to z (j + k)) =
    outer.1 ∙ ap (λ n. n * 10 ^ k) inner.1 ∙ mul_assoc (down z) (10 ^ j) (10 ^ k)
    ∙ ap (λ n. down z * n) (sym power) ∙ sym whole.1 in
    same_in _ _ (omega (arith, ups, downs))

product_lt : (u v : ℤ) (k : ℕ) → 0 < k → u <ℤ v → (u *ℤ pos k) <ℤ (v *ℤ pos k)
product_lt u v k p h =
    let us = product_parts u k in
    let vs = product_parts v k in
    let more = mul-lt-mul_of_pos_right (lt_out u v h) p in
    record { lt = lt_in (u *ℤ pos k) (v *ℤ pos k) (omega (arith, us.0, us.1, vs.0, vs.1, more)) }

ranked_as : (o : Ordering) {P Q R P' Q' R' : Type 0} → (P → P') → (Q → Q') → (R → R') → MatchOrdering o P Q R
    → MatchOrdering o P' Q' R'
ranked_as Less f g h m = f m
ranked_as Equal f g h m = g m
ranked_as Greater f g h m = h m

-- a positive factor keeps the order
pub product_cmp : (u v : ℤ) (k : ℕ) → 0 < k → int_cmp (u *ℤ pos k) (v *ℤ pos k) ≡ int_cmp u v
product_cmp u v k p = sym (int_cmp_is (u *ℤ pos k) (v *ℤ pos k) (int_cmp u v)
    (ranked_as (int_cmp u v) (product_lt u v k p) (λ e. ap (λ z. z *ℤ pos k) e) (product_lt v u k p)
    (int_ranked u v (int_cmp u v) refl)))

natural_up : (z : ℤ) → natural z ≡ up z
natural_up (pos n) = refl
natural_up (negsuc n) = refl

one_part : (z : ℤ) (a b : ℕ) → up z + b ≡ down z + a → up z ≡ a - b
one_part (pos n) a b e = omega arith
one_part (negsuc n) a b e = omega arith

-- the distance of one scale above another, with both counted from a base
pub scale_gap : (base s t : ℤ) (a b : ℕ) → s ≡ base +ℤ pos a → t ≡ base +ℤ pos b → natural (s -ℤ t) ≡ a - b
scale_gap base s t a b p q = natural_up (s -ℤ t)
    ∙ one_part (s -ℤ t) a b (let e : (s -ℤ t) +ℤ pos b ≡ pos a = omega (arith, ints) in omega (arith, ints))

-- a mantissa converted to the scale `base`
pub aligned_at : (base : ℤ) (x y : Decimal) (a b : ℕ) → x.scale ≡ base +ℤ pos a → y.scale ≡ base +ℤ pos b
    → times_ten_to (aligned_mantissa x y) (min a b) ≡ times_ten_to x.mantissa a
aligned_at base x y a b p q =
    ap (λ k. times_ten_to (times_ten_to x.mantissa k) (min a b)) (scale_gap base x.scale y.scale a b p q)
    ∙ times_times x.mantissa (a - b) (min a b) ∙ ap (times_ten_to x.mantissa) (omega arith)

-- numbers compare as their mantissas at a scale below both
pub compared_at : (base : ℤ) (x y : Decimal) (a b : ℕ) → x.scale ≡ base +ℤ pos a → y.scale ≡ base +ℤ pos b
    → decimal_cmp x y ≡ int_cmp (times_ten_to x.mantissa a) (times_ten_to y.mantissa b)
compared_at base x y a b p q =
    let left = aligned_at base x y a b p q in
    let right = aligned_at base y x b a q p in
    let same : min b a ≡ min a b = min_comm b a in
    sym (product_cmp (aligned_mantissa x y) (aligned_mantissa y x) (10 ^ min a b) (power_pos (min a b)))
    ∙ ap (λ z. int_cmp z (times_ten_to (aligned_mantissa y x) (min a b))) left
    ∙ ap (int_cmp (times_ten_to x.mantissa a)) (ap (times_ten_to (aligned_mantissa y x)) (sym same) ∙ right)

-- a scale, counted from a base far below it
pub scale_above : (n : ℕ) (s : ℤ) → mag s ≤ n → (a : ℕ) × (s ≡ negsuc n +ℤ pos a)
scale_above n (pos k) h = (suc n + k, same_in (pos k) (negsuc n +ℤ pos (suc n + k)) (omega (arith, ints)))
scale_above n (negsuc k) h = (n - k, same_in (negsuc k) (negsuc n +ℤ pos (n - k)) (omega (arith, ints)))

pub decimal_cmp_total : IsTotalOrder decimal_cmp
decimal_cmp_total = record {
  antisymm = λ x y. int_cmp_total.antisymm (aligned_mantissa x y) (aligned_mantissa y x);
  trans = λ x y z p q.
      let n = mag x.scale + mag y.scale + mag z.scale in
      let a = scale_above n x.scale (omega arith) in
      let b = scale_above n y.scale (omega arith) in
      let c = scale_above n z.scale (omega arith) in
      compared_at (negsuc n) x z a.0 c.0 a.1 c.1
      ∙ int_cmp_total.trans (times_ten_to x.mantissa a.0) (times_ten_to y.mantissa b.0)
      (times_ten_to z.mantissa c.0)
      (sym (compared_at (negsuc n) x y a.0 b.0 a.1 b.1) ∙ p)
      (sym (compared_at (negsuc n) y z b.0 c.0 b.1 c.1) ∙ q);
  congr = λ x y z p.
      let n = mag x.scale + mag y.scale + mag z.scale in
      let a = scale_above n x.scale (omega arith) in
      let b = scale_above n y.scale (omega arith) in
      let c = scale_above n z.scale (omega arith) in
      compared_at (negsuc n) x z a.0 c.0 a.1 c.1
      ∙ int_cmp_total.congr (times_ten_to x.mantissa a.0) (times_ten_to y.mantissa b.0)
      (times_ten_to z.mantissa c.0) (sym (compared_at (negsuc n) x y a.0 b.0 a.1 b.1) ∙ p)
      ∙ sym (compared_at (negsuc n) y z b.0 c.0 b.1 c.1);
}
