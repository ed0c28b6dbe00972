-- The number of digits that a number is printed with.
use Rattle.std.proofs.Common.{◌≡◌, ℕ, suc, ◌+◌, ◌*◌, ◌^◌, ◌<◌, ◌≤◌, length, ap, inl, inr, arith}
use Rattle.std.proofs.Math.Nat.{pow-suc, pow-le-pow_right}
use Rattle.std.proofs.lemmas.Bool.{cases_lt}
use Rattle.std.proofs.lemmas.Fmt.{decimal_digit, length-decimal-le_wide, decimal_is_IsNumeral_wide}
use Rattle.std.proofs.lemmas.Int.Digits.{digits_value-lt}
use Rattle.std.specs.Fmt.{decimal}

pub length_of_zero : length (decimal 0) ≡ 1
length_of_zero = ap length (decimal_digit 0 (omega arith))

pub length_is : (n r : ℕ) → n < 2 ^ 128 → 10 ^ r ≤ n → n < 10 * 10 ^ r → length (decimal n) ≡ r + 1
length_is n r bound low high =
    let wide : n < 10 ^ 64 = omega arith in
    let upper : length (decimal n) ≤ suc r = length-decimal-le_wide (suc r) n (omega arith) (omega (arith, pow-suc 10 r)) wide in
    let numeral = decimal_is_IsNumeral_wide n wide in
    let below : n < 10 ^ length (decimal n) = omega (arith, digits_value-lt 10 (decimal n) numeral.0.1, numeral.1) in
    elim (cases_lt r (length (decimal n))) as (λ _. length (decimal n) ≡ r + 1) [
      | inl h ↦ omega arith
      | inr h ↦ absurd (omega (arith, pow-le-pow_right {n = 10} (omega arith) h))
    ]
