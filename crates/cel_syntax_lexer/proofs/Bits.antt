-- Numbers past 64 bits.
use Rattle.std.proofs.Common.{◌≡◌, ℕ, ◌^◌, ◌≤◌, refl, arith, Bool, true, false, Option, Some, None, cond}
use Rattle.std.specs.Prelude.{nat_lt, nat_le}
use Rattle.std.specs.Option.{option_and_then}
use Rattle.std.proofs.lemmas.Bool.Decides.{nat_tests}
use Rattle.cel_syntax_lexer.specs.Number.{of_64_bits, int_value, uint_value}

-- A function that is None past 64 bits may be applied to what fits 64 bits.
pub of_bits : {A : Type 0} (f : ℕ → Option A) → ((n : ℕ) → 2 ^ 64 ≤ n → f n ≡ None) → (o : Option ℕ) → option_and_then f (option_and_then of_64_bits o) ≡ option_and_then f o
of_bits f past None = refl
of_bits {A} f past (Some n) = at (nat_lt n (2 ^ 64)) refl
  where
    at : (b : Bool) → nat_lt n (2 ^ 64) ≡ b → option_and_then f (cond b (Some n) None) ≡ f n
    at true e = refl
    at false e = let big : 2 ^ 64 ≤ n = grind (arith, nat_tests) in rw (past n big)

int_past : (negative : Bool) (n : ℕ) → 2 ^ 64 ≤ n → int_value negative n ≡ None
unfolding int_value
int_past true n h = let no : nat_le n (2 ^ 63) ≡ false = grind (arith, nat_tests) in rw no
int_past false n h = let no : nat_lt n (2 ^ 63) ≡ false = grind (arith, nat_tests) in rw no

pub int_of_bits : (negative : Bool) (o : Option ℕ) → option_and_then (int_value negative) (option_and_then of_64_bits o) ≡ option_and_then (int_value negative) o
int_of_bits negative o = of_bits (int_value negative) (int_past negative) o

uint_past : (negative : Bool) (n : ℕ) → 2 ^ 64 ≤ n → uint_value negative n ≡ None
unfolding uint_value
uint_past true n h = refl
uint_past false n h = let no : nat_lt n (2 ^ 64) ≡ false = grind (arith, nat_tests) in rw no

pub uint_of_bits : (o : Option ℕ) → option_and_then of_64_bits o ≡ option_and_then (uint_value false) o
unfolding uint_value
uint_of_bits None = refl
uint_of_bits (Some n) = refl
