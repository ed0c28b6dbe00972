-- Checked operations on 64-bit numbers equal their definitions.
use Rattle.std.proofs.Common.{◌≡◌, ℕ, suc, ◌-◌, ◌^◌, ◌<◌, ◌≤◌, ℤ, pos, negsuc, Bool, true, false, cond, Option, Some, None, Ok, Err, nat_lt, nat_eq, refl, arith}
use Rattle.std.specs.Prelude.{SomeIff, FitsSigned, unsigned_abs, int_div, int_rem}
use Rattle.std.specs.Int.{w64, CanDivide, cast_unsigned}
use Rattle.std.proofs.lemmas.Bool.{ltb-true, lt-ltb, eqb-true}
use Rattle.cel_value.specs.Data.{int, uint}
use Rattle.cel_value.specs.Faults.{overflow}
use Rattle.cel_semantics.specs.Arithmetic.{is_int, or_overflow, int_or_overflow, uint_or_overflow, difference_of, quotient_of, remainder_of}

lt_true : (m n : ℕ) → m < n → nat_lt m n ≡ true
lt_true m n h = lt-ltb m n h

not_true : (b : Bool) → (b ≡ true → ⊥) → b ≡ false
not_true true h = absurd (h refl)
not_true false h = refl

lt_false : (m n : ℕ) → (m < n → ⊥) → nat_lt m n ≡ false
lt_false m n h = not_true (nat_lt m n) (λ e. h (ltb-true m n e))

-- a number fits 64 bits with a sign exactly if it is an int
pub is_int-fits : (z : ℤ) → FitsSigned w64 z → is_int z ≡ true
is_int-fits (pos n) h = lt_true n (2 ^ 63) h.sfits
is_int-fits (negsuc n) h = lt_true n (2 ^ 63) h.sfits

pub is_int-past : (z : ℤ) → (FitsSigned w64 z → ⊥) → is_int z ≡ false
is_int-past (pos n) h = lt_false n (2 ^ 63) (λ g. h (record { sfits = g }))
is_int-past (negsuc n) h = lt_false n (2 ^ 63) (λ g. h (record { sfits = g }))

-- an answer that is Some exactly if q is an int
int_checked_by : (o : Option ℤ) (q z : ℤ) (P : Type 0) → (P → FitsSigned w64 q) → (FitsSigned w64 q → P) → SomeIff o P z → or_overflow int o ≡ cond (is_int q) (Ok (int z)) (Err overflow)
int_checked_by None q z P to from h = rw (is_int-past q (λ f. h (from f)))
int_checked_by (Some x) q z P to from h = rw (is_int-fits q (to h.0), h.1)

pub int_checked : (o : Option ℤ) (z : ℤ) → SomeIff o (FitsSigned w64 z) z → or_overflow int o ≡ int_or_overflow z
int_checked o z h = int_checked_by o z z (FitsSigned w64 z) (λ f. f) (λ f. f) h

uint_checked_by : (o : Option ℕ) (n : ℕ) (t : Bool) (P : Type 0) → (P → t ≡ true) → ((P → ⊥) → t ≡ false) → SomeIff o P n → or_overflow uint o ≡ cond t (Ok (uint n)) (Err overflow)
uint_checked_by None n t P there none h = rw (none h)
uint_checked_by (Some x) n t P there none h = rw (there h.0, h.1)

pub uint_checked : (o : Option ℕ) (n : ℕ) → SomeIff o (n < 2 ^ 64) n → or_overflow uint o ≡ uint_or_overflow n
uint_checked o n h = uint_checked_by o n (nat_lt n (2 ^ 64)) (n < 2 ^ 64) (lt_true n (2 ^ 64)) (lt_false n (2 ^ 64)) h

pub uint_difference_checked : (o : Option ℕ) (m n : ℕ) → SomeIff o (n ≤ m) (m - n) → or_overflow uint o ≡ difference_of (uint m) (uint n)
uint_difference_checked None m n h =
    let less : m < n = omega (arith, h) in
    rw (lt_true m n less)
uint_difference_checked (Some x) m n h =
    let enough : n ≤ m = h.0 in
    rw (lt_false m n (λ g. omega arith), h.1)

not_zero : (n : ℕ) → (n ≡ 0 → ⊥) → nat_eq n 0 ≡ false
not_zero n h = not_true (nat_eq n 0) (λ e. h (eqb-true n 0 e))

-- a divisor whose bits aren't all 0 isn't 0
nonzero_size : (n : ℤ) → (cast_unsigned w64 n ≡ 0 → ⊥) → nat_eq (unsigned_abs n) 0 ≡ false
nonzero_size (pos n) h = not_zero n h
nonzero_size (negsuc n) h = not_zero (suc n) (λ e. absurd (omega (arith, e)))

nonzero_bits : (n : ℕ) → (n ≡ 0 → ⊥) → 0 < n
nonzero_bits n h = omega (arith, h)

pub quotient_checked : (o : Option ℤ) (m n : ℤ) → (cast_unsigned w64 n ≡ 0 → ⊥) → SomeIff o (CanDivide w64 m n) (int_div m n) → or_overflow int o ≡ quotient_of (int m) (int n)
quotient_checked o m n h k =
    rw (nonzero_size n h) (int_checked_by o (int_div m n) (int_div m n) (CanDivide w64 m n) (λ p. p.1) (λ f. (nonzero_bits (cast_unsigned w64 n) h, f)) k)

pub remainder_checked : (o : Option ℤ) (m n : ℤ) → (cast_unsigned w64 n ≡ 0 → ⊥) → SomeIff o (CanDivide w64 m n) (int_rem m n) → or_overflow int o ≡ remainder_of (int m) (int n)
remainder_checked o m n h k =
    rw (nonzero_size n h) (int_checked_by o (int_div m n) (int_rem m n) (CanDivide w64 m n) (λ p. p.1) (λ f. (nonzero_bits (cast_unsigned w64 n) h, f)) k)
