-- The trailing zeros of a number.
use Rattle.std.proofs.Common.{◌≡◌, ◌≢◌, ℕ, zero, suc, ◌+◌, ◌*◌, ◌/◌, ◌%◌, ◌^◌, ◌<◌, ◌≤◌, false, cond, eqb, refl, sym, ◌∙◌, ap, inl, inr, arith}
use Rattle.std.proofs.Math.Nat.{pow-suc, pow-le-pow_right, mul-mod_left, mul-div_cancel, mul_assoc, mul-le-mul}
use Rattle.std.proofs.lemmas.Bool.{cases_lt, eq-eqb}
use Rattle.std.proofs.lemmas.Bool.Decides.{nat_tests}
use Rattle.kube_types.specs.Quantity.Normal.{zeros_among, trailing_zeros}
use Rattle.kube_types.specs.Quantity.Scales.{power_pos}

-- one power of ten taken out
pub power_out : (a z : ℕ) → a * 10 ^ suc z ≡ a * 10 ^ z * 10
power_out a z = ap (λ p. a * p) (pow-suc 10 z) ∙ sym (mul_assoc a (10 ^ z) 10)

pub above_power : (z : ℕ) → z < 10 ^ z
above_power zero = omega arith
above_power (suc z) = omega (arith, above_power z, pow-suc 10 z)

-- a number of 128 bits ends in fewer than 39 zeros
pub few_zeros : (n a z : ℕ) → n < 2 ^ 128 → 0 < a → n ≡ a * 10 ^ z → z < 39
few_zeros n a z bound positive e =
    elim (cases_lt z 39) as (λ _. z < 39) [
      | inl h ↦ h
      | inr h ↦ absurd (omega (arith, pow-le-pow_right {n = 10} (omega arith) h, mul-le-mul {n₁ = 1} {m₁ = 10 ^ z} {n₂ = a} {m₂ = 10 ^ z} (omega arith) (omega arith)))
    ]

-- a trailing zero is moved from the number into the power
pub zero_out : (n r z : ℕ) → n ≡ r * 10 ^ z → r % 10 ≡ 0 → n ≡ (r / 10) * 10 ^ (z + 1)
zero_out n r z e ends =
    let tens : r ≡ r / 10 * 10 = omega arith in
    let step : 10 * 10 ^ z ≡ 10 ^ suc z = omega (arith, pow-suc 10 z) in
    let next : suc z ≡ z + 1 = omega arith in
    e ∙ ap (λ v. v * 10 ^ z) tens ∙ mul_assoc (r / 10) 10 (10 ^ z) ∙ ap (λ p. r / 10 * p) step ∙ ap (λ k. r / 10 * 10 ^ k) next

pub not_equal : (a b : ℕ) → a ≢ b → eqb a b ≡ false
not_equal a b h = grind (arith, nat_tests)

one_more : (most a n : ℕ) → n ≡ a * 10 → zeros_among (suc most) n ≡ suc (zeros_among most a)
unfolding zeros_among
one_more most a n e =
    let ends : n % 10 ≡ 0 = ap (λ v. v % 10) e ∙ mul-mod_left a 10 in
    let rest : n / 10 ≡ a = ap (λ v. v / 10) e ∙ mul-div_cancel a (omega arith) in
    ap (λ b. cond b (suc (zeros_among most (n / 10))) 0) (eq-eqb (n % 10) 0 ends) ∙ ap (λ v. suc (zeros_among most v)) rest

no_more : (most a : ℕ) → a % 10 ≢ 0 → zeros_among (suc most) a ≡ 0
unfolding zeros_among
no_more most a h = ap (λ b. cond b (suc (zeros_among most (a / 10))) 0) (not_equal (a % 10) 0 h)

none_left : (n : ℕ) → zeros_among zero n ≡ 0
unfolding zeros_among
none_left n = refl

zeros_are : (most z a : ℕ) → a % 10 ≢ 0 → z ≤ most → zeros_among most (a * 10 ^ z) ≡ z
zeros_are zero zero a h k = none_left (a * 10 ^ zero)
zeros_are zero (suc z) a h k = absurd (omega arith)
zeros_are (suc most) zero a h k = let e : a * 10 ^ zero ≡ a = omega arith in ap (zeros_among (suc most)) e ∙ no_more most a h
zeros_are (suc most) (suc z) a h k =
    one_more most (a * 10 ^ z) (a * 10 ^ suc z) (power_out a z) ∙ ap suc (zeros_are most z a h (omega arith))

positive_from : (a : ℕ) → a % 10 ≢ 0 → 0 < a
positive_from zero h = absurd (h refl)
positive_from (suc a) h = omega arith

-- the trailing zeros of a number that is split into
-- a power of ten and a number without trailing zeros
pub trailing_are : (n a z : ℕ) → n ≡ a * 10 ^ z → a % 10 ≢ 0 → trailing_zeros n ≡ z
trailing_are n a z e h =
    let positive : 0 < a = positive_from a h in
    let enough : z ≤ a * 10 ^ z = omega (arith, above_power z, mul-le-mul {n₁ = 1} {m₁ = 10 ^ z} {n₂ = a} {m₂ = 10 ^ z} (omega arith) (omega arith)) in
    ap (λ v. zeros_among v v) e ∙ zeros_are (a * 10 ^ z) z a h enough

pub trailing_of_zero : trailing_zeros 0 ≡ 0
trailing_of_zero = none_left 0

pub shorter_is : (n a z : ℕ) → n ≡ a * 10 ^ z → n / 10 ^ z ≡ a
shorter_is n a z e = ap (λ v. v / 10 ^ z) e ∙ mul-div_cancel a (power_pos z)
