-- The normal form of a number is in normal form, and is the same number.
use Rattle.std.proofs.Common.{◌≡◌, ◌≢◌, ℕ, zero, suc, ◌+◌, ◌*◌, ◌/◌, ◌%◌, ◌^◌, ◌<◌, ◌≤◌, ◌&&◌, Bool, true, false, cond, eqb, ltb, ℤ, pos, negsuc, ◌+ℤ◌, ◌-ℤ◌, refl, sym, ◌∙◌, ap, inl, inr, arith}
use Rattle.std.proofs.lemmas.Bool.{cases_eq, cases_lt, eq-eqb}
use Rattle.std.proofs.lemmas.Bool.Decides.{nat_tests}
use Rattle.std.proofs.lemmas.Int.{ints}
use Rattle.std.specs.Int.{is_negative, w32, w128}
use Rattle.std.specs.Prelude.{unsigned_abs, FitsSigned, Some, None}
use borrow.Author.Differences.{up, down, same_in}
use lib.Signed.{mag}
use Rattle.kube_types.specs.Quantity.Decimal.{Decimal, natural, times_ten_to, aligned_mantissa, with_sign, SameNumber}
use Rattle.kube_types.specs.Quantity.Normal.{is_normal, IsNormal, mantissa_without_zeros, trailing_zeros, normal_form, fits, quantity_holding}
use Rattle.kube_types.specs.Quantity.NormalLaws.{times_zero}
use Rattle.kube_types.specs.Quantity.Scales.{product_parts, scale_above, scale_gap}
use Rattle.kube_types.specs.Quantity.Sums.{decimal_at}
use Rattle.kube_types.proofs.Quantity.Zeros.{power_out, trailing_are, shorter_is, trailing_of_zero, not_equal}

-- a number as one without trailing zeros times a power of ten
pub record Split (n : ℕ) : Type 0 where
  pub front : ℕ
  pub zeros : ℕ
  pub whole : n ≡ front * 10 ^ zeros
  pub last : front % 10 ≢ 0

pub split_of : (most n : ℕ) → 0 < n → n ≤ most → Split n
split_of zero n p h = absurd (omega arith)
split_of (suc most) n p h = elim (cases_eq (n % 10) 0) as (λ _. Split n) [
  | inl ends ↦
      let rest = split_of most (n / 10) (omega arith) (omega arith) in
      record {
        front = rest.front;
        zeros = suc rest.zeros;
        whole = (let tens : n ≡ n / 10 * 10 = omega arith in tens ∙ ap (λ v. v * 10) rest.whole ∙ sym (power_out rest.front rest.zeros));
        last = rest.last;
      }
  | inr other ↦ record { front = n; zeros = 0; whole = omega arith; last = other }
]

pub zero_is : (z : ℤ) → unsigned_abs z ≡ 0 → z ≡ pos 0
zero_is (pos n) e = ap pos e
zero_is (negsuc n) e = absurd (omega arith)

zero_times : (k : ℕ) → times_ten_to (pos 0) k ≡ pos 0
zero_times k = ap pos (omega arith)

negative_down : (n : ℕ) → down (with_sign true n) ≡ n
negative_down zero = refl
negative_down (suc n) = refl

negative_up : (n : ℕ) → up (with_sign true n) ≡ 0
negative_up zero = refl
negative_up (suc n) = refl

sign_parts : (b : Bool) (n : ℕ) → unsigned_abs (with_sign b n) ≡ n
sign_parts true zero = refl
sign_parts true (suc n) = refl
sign_parts false n = refl

-- the normal form of a number that is split this way
pub normal_form_is : (x : Decimal) (a z : ℕ) → unsigned_abs x.mantissa ≡ a * 10 ^ z → a % 10 ≢ 0 → 0 < unsigned_abs x.mantissa
    → normal_form x ≡ decimal_at (with_sign (is_negative x.mantissa) a) (x.scale +ℤ pos z)
unfolding normal_form
normal_form_is x a z e last positive =
    let zeros : trailing_zeros (unsigned_abs x.mantissa) ≡ z = trailing_are (unsigned_abs x.mantissa) a z e last in
    let m : mantissa_without_zeros x.mantissa ≡ with_sign (is_negative x.mantissa) a =
    ap (λ k. with_sign (is_negative x.mantissa) (unsigned_abs x.mantissa / 10 ^ k)) zeros ∙ ap (with_sign (is_negative x.mantissa)) (shorter_is (unsigned_abs x.mantissa) a z e) in
    let some : eqb (unsigned_abs x.mantissa) 0 ≡ false = not_equal (unsigned_abs x.mantissa) 0 (λ none. absurd (omega arith)) in
    let s : cond (eqb (unsigned_abs x.mantissa) 0) (pos 0) (x.scale +ℤ pos (trailing_zeros (unsigned_abs x.mantissa))) ≡ x.scale +ℤ pos z =
    ap (λ b. cond b (pos 0) (x.scale +ℤ pos (trailing_zeros (unsigned_abs x.mantissa)))) some ∙ ap (λ k. x.scale +ℤ pos k) zeros in
    λ i. record { mantissa = m i; scale = s i }

pub normal_form_zero : (x : Decimal) → unsigned_abs x.mantissa ≡ 0 → normal_form x ≡ decimal_at (pos 0) (pos 0)
unfolding normal_form
normal_form_zero x e =
    let m_is : x.mantissa ≡ pos 0 = zero_is x.mantissa e in
    let m : mantissa_without_zeros x.mantissa ≡ pos 0 = ap mantissa_without_zeros m_is ∙ ap (λ k. with_sign (is_negative (pos 0)) (0 / 10 ^ k)) trailing_of_zero in
    let s : cond (eqb (unsigned_abs x.mantissa) 0) (pos 0) (x.scale +ℤ pos (trailing_zeros (unsigned_abs x.mantissa))) ≡ pos 0 =
    ap (λ b. cond b (pos 0) (x.scale +ℤ pos (trailing_zeros (unsigned_abs x.mantissa)))) (eq-eqb (unsigned_abs x.mantissa) 0 e) in
    λ i. record { mantissa = m i; scale = s i }

pub ltb_none : (n : ℕ) → ltb n 0 ≡ false
ltb_none n = grind (arith, nat_tests)

-- a mantissa is its front times the power of its trailing zeros
sign_back : (m : ℤ) (a z : ℕ) → unsigned_abs m ≡ a * 10 ^ z → times_ten_to (with_sign (is_negative m) a) z ≡ m
sign_back (pos n) a z e =
    let flag : is_negative (pos n) ≡ false = ltb_none n in
    ap (λ b. times_ten_to (with_sign b a) z) flag ∙ ap pos (sym e)
sign_back (negsuc n) a z e =
    let parts = product_parts (with_sign true a) (10 ^ z) in
    let down_is : down (with_sign true a) ≡ a = negative_down a in
    let up_is : up (with_sign true a) ≡ 0 = negative_up a in
    let downs : down (times_ten_to (with_sign true a) z) ≡ suc n = parts.1 ∙ ap (λ v. v * 10 ^ z) down_is ∙ sym e in
    let ups : up (times_ten_to (with_sign true a) z) ≡ 0 = parts.0 ∙ ap (λ v. v * 10 ^ z) up_is ∙ omega arith in
    same_in (times_ten_to (with_sign true a) z) (negsuc n) (omega (arith, downs, ups))

-- moving zeros into the scale doesn't change the number
shifted_same : (m k s : ℤ) (z : ℕ) → times_ten_to k z ≡ m → SameNumber (decimal_at k (s +ℤ pos z)) (decimal_at m s)
shifted_same m k s z e =
    let n = mag s in
    let b = scale_above n s (omega arith) in
    let above : s +ℤ pos z ≡ negsuc n +ℤ pos (b.0 + z) = omega (arith, ints, b.1) in
    let left : natural ((s +ℤ pos z) -ℤ s) ≡ z = scale_gap (negsuc n) (s +ℤ pos z) s (b.0 + z) b.0 above b.1 ∙ omega arith in
    let right : natural (s -ℤ (s +ℤ pos z)) ≡ 0 = scale_gap (negsuc n) s (s +ℤ pos z) b.0 (b.0 + z) b.1 above ∙ omega arith in
    ap (times_ten_to k) left ∙ e ∙ sym (times_zero m) ∙ ap (times_ten_to m) (sym right)

pub ends_normal : (m s : ℤ) → unsigned_abs m % 10 ≢ 0 → is_normal m s ≡ true
ends_normal m s h = ap (λ b. cond b (eqb (unsigned_abs m) 0 && eqb (unsigned_abs s) 0) true) (not_equal (unsigned_abs m % 10) 0 h)

pub normal_form-normal : (x : Decimal) → IsNormal (normal_form x)
normal_form-normal x = elim (cases_eq (unsigned_abs x.mantissa) 0) as (λ _. IsNormal (normal_form x)) [
  | inl none ↦ ap (λ (d : Decimal). is_normal d.mantissa d.scale) (normal_form_zero x none)
  | inr some ↦
      let cut = split_of (unsigned_abs x.mantissa) (unsigned_abs x.mantissa) (omega arith) (omega arith) in
      let form = normal_form_is x cut.front cut.zeros cut.whole cut.last (omega arith) in
      let m = with_sign (is_negative x.mantissa) cut.front in
      ap (λ (d : Decimal). is_normal d.mantissa d.scale) form
      ∙ ends_normal m (x.scale +ℤ pos cut.zeros) (λ e. cut.last (ap (λ v. v % 10) (sym (sign_parts (is_negative x.mantissa) cut.front)) ∙ e))
]

pub normal_form-same : (x : Decimal) → SameNumber (normal_form x) x
normal_form-same x = elim (cases_eq (unsigned_abs x.mantissa) 0) as (λ _. SameNumber (normal_form x) x) [
  | inl none ↦
      let zero_x : x.mantissa ≡ pos 0 = zero_is x.mantissa none in
      ap (λ d. aligned_mantissa d x) (normal_form_zero x none) ∙ zero_times (natural (pos 0 -ℤ x.scale))
      ∙ sym (ap (λ d. aligned_mantissa x d) (normal_form_zero x none) ∙ ap (λ m. times_ten_to m (natural (x.scale -ℤ pos 0))) zero_x ∙ zero_times (natural (x.scale -ℤ pos 0)))
  | inr some ↦
      let cut = split_of (unsigned_abs x.mantissa) (unsigned_abs x.mantissa) (omega arith) (omega arith) in
      let form = normal_form_is x cut.front cut.zeros cut.whole cut.last (omega arith) in
      let m = with_sign (is_negative x.mantissa) cut.front in
      ap (λ d. aligned_mantissa d x) form
      ∙ shifted_same x.mantissa m x.scale cut.zeros (sign_back x.mantissa cut.front cut.zeros cut.whole)
      ∙ sym (ap (λ d. aligned_mantissa x d) form)
]

fits_true : (bits : ℕ) (z : ℤ) → mag z < 2 ^ bits → fits bits z ≡ true
fits_true bits (pos n) h = grind (arith, nat_tests)
fits_true bits (negsuc n) h = grind (arith, nat_tests)

fits_false : (bits : ℕ) (z : ℤ) → 2 ^ bits ≤ mag z → fits bits z ≡ false
fits_false bits (pos n) h = grind (arith, nat_tests)
fits_false bits (negsuc n) h = grind (arith, nat_tests)

pub fits_128 : (z : ℤ) → FitsSigned w128 z → fits 127 z ≡ true
fits_128 z f = fits_true 127 z f.sfits

beyond : (z : ℤ) → ¬ (FitsSigned w32 z) → 2 ^ 31 ≤ mag z
beyond z out = elim (cases_lt (mag z) (2 ^ 31)) as (λ _. 2 ^ 31 ≤ mag z) [ inl h ↦ absurd (out (record { sfits = h })) | inr h ↦ h ]

-- the quantity for a number that is zero
pub held_zero : (m s : ℤ) → m ≡ pos 0 → quantity_holding (decimal_at m s) ≡ Some (decimal_at (pos 0) (pos 0))
unfolding quantity_holding
held_zero m s e =
    let form = normal_form_zero (decimal_at m s) (ap unsigned_abs e) in
    ap (λ (d : Decimal). cond (fits 31 d.scale) (Some d) None) form

form_scale : (m s : ℤ) → 0 < unsigned_abs m → (normal_form (decimal_at m s)).scale ≡ s +ℤ pos (trailing_zeros (unsigned_abs m))
unfolding normal_form
form_scale m s positive = ap (λ b. cond b (pos 0) (s +ℤ pos (trailing_zeros (unsigned_abs m)))) (not_equal (unsigned_abs m) 0 (λ none. absurd (omega arith)))

form_mantissa : (m s : ℤ) → (normal_form (decimal_at m s)).mantissa ≡ mantissa_without_zeros m
unfolding normal_form
form_mantissa m s = refl

-- the quantity for a number that isn't zero, if there is one
pub held_some : (m s r t : ℤ) (z : ℕ) → 0 < unsigned_abs m → r ≡ mantissa_without_zeros m → z ≡ trailing_zeros (unsigned_abs m) → t ≡ s +ℤ pos z → FitsSigned w32 t
    → Some (decimal_at r t) ≡ quantity_holding (decimal_at m s)
unfolding quantity_holding
held_some m s r t z positive r_is z_is t_is f =
    let scale : (normal_form (decimal_at m s)).scale ≡ t = form_scale m s positive ∙ ap (λ k. s +ℤ pos k) (sym z_is) ∙ sym t_is in
    let test : fits 31 (normal_form (decimal_at m s)).scale ≡ true = ap (fits 31) scale ∙ fits_true 31 t f.sfits in
    let same : normal_form (decimal_at m s) ≡ decimal_at r t = λ i. record { mantissa = (form_mantissa m s ∙ sym r_is) i; scale = scale i } in
    sym (ap (λ b. cond b (Some (normal_form (decimal_at m s))) None) test ∙ ap Some same)

pub held_none : (m s : ℤ) (z : ℕ) → 0 < unsigned_abs m → z ≡ trailing_zeros (unsigned_abs m) → ¬ (FitsSigned w32 (s +ℤ pos z)) → None ≡ quantity_holding (decimal_at m s)
unfolding quantity_holding
held_none m s z positive z_is out =
    let scale : (normal_form (decimal_at m s)).scale ≡ s +ℤ pos z = form_scale m s positive ∙ ap (λ k. s +ℤ pos k) (sym z_is) in
    let far : 2 ^ 31 ≤ mag (s +ℤ pos z) = beyond (s +ℤ pos z) out in
    let test : fits 31 (normal_form (decimal_at m s)).scale ≡ false = ap (fits 31) scale ∙ fits_false 31 (s +ℤ pos z) far in
    sym (ap (λ b. cond b (Some (normal_form (decimal_at m s))) None) test)
