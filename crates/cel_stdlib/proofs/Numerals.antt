-- Which texts std parses as numbers.
use Rattle.std.proofs.Common.{◌≡◌, ℕ, ℤ, pos, negsuc, ◌^◌, List, length, Bool, true, false, cond, ◌&&◌, Some, None, refl}
use Rattle.std.specs.Prelude.{nat_lt, FitsSigned}
use Rattle.std.specs.Int.{w64}
use Rattle.std.specs.Result.{result_ok, OkIff}
use Rattle.std.specs.declared.result.Result.{Result}
use Rattle.std.specs.declared.result.Result.TheVariants.{Ok, Err}
use Rattle.std.specs.Str.{all_ascii_digits}
use Rattle.std.specs.Str.Parse.{digits_value, IsNumeral, ParsesSigned, ParsesUnsigned}
use Rattle.std.proofs.lemmas.Bool.{ltb-true, lt-ltb}
use Rattle.std.proofs.lemmas.Str.Parse.{IsNumeralModel, numerals_by_value, tells_all_ascii_digits}
use Rattle.cel_semantics.specs.Arithmetic.{is_int}
use Rattle.cel_stdlib.specs.Conversions.{is_numeral, int_text, uint_text}

both : (a b : Bool) → (a && b) ≡ true → (a ≡ true) × (b ≡ true)
both true true e = (refl, refl)
both true false e = absurd (cc)
both false b e = absurd (cc)

and_true : (a b : Bool) → a ≡ true → b ≡ true → (a && b) ≡ true
and_true a b h k = rw (h, k)

own : IsNumeralModel (λ ds. all_ascii_digits ds ≡ true) (digits_value 10)
own = numerals_by_value (λ ds. all_ascii_digits ds ≡ true) tells_all_ascii_digits

numeral_to : (ds : List ℕ) → is_numeral ds ≡ true → IsNumeral 10 ds
numeral_to ds e =
    let parts = both (nat_lt 0 (length ds)) (all_ascii_digits ds) e in
    (ltb-true _ _ parts.0, own.to ds parts.1)

numeral_from : (ds : List ℕ) → IsNumeral 10 ds → is_numeral ds ≡ true
numeral_from ds h = and_true (nat_lt 0 (length ds)) (all_ascii_digits ds) (lt-ltb 0 (length ds) h.0) (own.from ds h.1)

int_to : (z : ℤ) → is_int z ≡ true → FitsSigned w64 z
int_to (pos n) e = record { sfits = ltb-true n (2 ^ 63) e }
int_to (negsuc n) e = record { sfits = ltb-true n (2 ^ 63) e }

int_from : (z : ℤ) → FitsSigned w64 z → is_int z ≡ true
int_from (pos n) h = lt-ltb n (2 ^ 63) h.sfits
int_from (negsuc n) h = lt-ltb n (2 ^ 63) h.sfits

-- a result that is Ok exactly if a test holds
ok_where : {A E : Type 0} (r : Result A E) (P : Type 0) (x : A) (t : Bool) → (t ≡ true → P) → (P → t ≡ true) → OkIff r P x → result_ok r ≡ cond t (Some x) None
ok_where (Ok y) P x true to from h = rw h.1
ok_where (Ok y) P x false to from h = let e : false ≡ true = from h.0 in absurd (cc)
ok_where (Err e) P x true to from h = absurd (h (to refl))
ok_where (Err e) P x false to from h = refl

pub int_read : {E : Type 0} (s : List ℕ) (r : Result ℤ E) → ParsesSigned w64 10 s r → result_ok r ≡ int_text s
int_read s r h = ok_where r _ _ _
    (λ e. let parts = both _ _ e in (numeral_to _ parts.0, int_to _ parts.1))
    (λ p. and_true _ _ (numeral_from _ p.0) (int_from _ p.1)) h

pub uint_read : {E : Type 0} (s : List ℕ) (r : Result ℕ E) → ParsesUnsigned 64 10 s r → result_ok r ≡ uint_text s
uint_read s r h = ok_where r _ _ _
    (λ e. let parts = both _ _ e in (numeral_to _ parts.0, ltb-true _ _ parts.1))
    (λ p. and_true _ _ (numeral_from _ p.0) (lt-ltb _ (2 ^ 64) p.1)) h
