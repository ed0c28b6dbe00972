-- The values of decimal digits.
use Rattle.std.proofs.Common.{◌≡◌, ◌≢◌, ℕ, zero, suc, ◌-◌, ◌^◌, ◌<◌, ◌≤◌, refl, ◌∙◌, ap, subst, arith, Bool, true, false, Some, List, [], ◌∷◌, ◌++◌, length, get_or, take, ◌&&◌, pos, neg_ℤ, option_map, one-add, length-append, append-nil}
use Rattle.std.specs.Prelude.{nat_lt, nat_le, nat_eq}
use Rattle.std.specs.List.{list_all}
use Rattle.std.specs.Char.{digit_value, is_ascii_digit}
use Rattle.std.specs.Int.{IsInRange}
use Rattle.std.specs.Fmt.{decimal}
use Rattle.std.specs.Str.Parse.{AllDigits, IsNumeral, digits_value}
use Rattle.std.proofs.lemmas.Bool.{le-leb, eqb-true}
use Rattle.std.proofs.lemmas.Fmt.{decimal_is_IsNumeral}
use Rattle.std.proofs.lemmas.List.{get_or-append_right, take-append-le}
use Rattle.std.proofs.lemmas.Str.Parse.{digit_from_value, digit_at}
use Rattle.cel_value.specs.Data.{int, uint}
use Rattle.cel_syntax_lexer.specs.Number.{is_digit_in, is_numeral, numeral_value, is_hexadecimal, integer_value, is_unsigned, without_last, int_value, uint_value, digit_count, after_digits, is_exponent, is_double, number_value}

not_equal : (a b : ℕ) → a ≢ b → nat_eq a b ≡ false
not_equal a b other = at (nat_eq a b) refl
  where
    at : (t : Bool) → nat_eq a b ≡ t → t ≡ false
    at true e = absurd (other (eqb-true a b e))
    at false e = refl

both_false : (b : Bool) → (b && false) ≡ false
both_false true = refl
both_false false = refl

-- ---- digits, and digits before a tail

digit_is : (c : ℕ) → digit_value c < 10 → is_ascii_digit c ≡ true
digit_is c h =
    let r : IsInRange 48 57 c = digit_from_value c h in
    rw (le-leb 48 c r.0, le-leb c 57 r.1)

passed_digits : (ds t : List ℕ) → AllDigits 10 ds → after_digits (ds ++ t) ≡ after_digits t
passed_digits [] t h = refl
passed_digits (c ∷ cs) t h = rw (digit_is c h.0, one-add) (passed_digits cs t h.1)

all_in : (ds : List ℕ) → AllDigits 10 ds → list_all (is_digit_in 10) ds ≡ true
unfolding is_digit_in
all_in [] h = refl
all_in (c ∷ cs) h = rw (le-leb (suc (digit_value c)) 10 (omega (arith, h.0))) (all_in cs h.1)

numeral : (ds : List ℕ) → IsNumeral 10 ds → is_numeral 10 ds ≡ true
unfolding is_numeral
numeral ds h = rw (le-leb 1 (length ds) (omega (arith, h.0))) (all_in ds h.1)

decimal_radix : (ds : List ℕ) → AllDigits 10 ds → is_hexadecimal ds ≡ false
decimal_radix [] h = refl
decimal_radix (c ∷ []) h = both_false (nat_eq c 48)
decimal_radix (c ∷ d ∷ cs) h =
    let r : IsInRange 48 57 d = digit_from_value d h.1.0 in
    let other : nat_eq d 120 ≡ false = not_equal d 120 (λ e. absurd (omega (arith, e, r.1))) in
    rw other (both_false (nat_eq c 48))

integer_is : (ds : List ℕ) → IsNumeral 10 ds → integer_value ds ≡ Some (digits_value 10 ds)
unfolding integer_value numeral_value
integer_is ds h = rw (decimal_radix ds h.1, numeral ds h)

-- ---- they are no double

no_double : (ds t : List ℕ) → AllDigits 10 ds → nat_eq (get_or (after_digits t) 0 0) 46 ≡ false → is_exponent (after_digits t) ≡ false → is_double (ds ++ t) ≡ false
unfolding is_double
no_double ds t h point e = rw (passed_digits ds t h, point, e) (both_false (nat_lt 0 (digit_count (ds ++ t))))

digits_no_double : (ds : List ℕ) → AllDigits 10 ds → is_double ds ≡ false
unfolding is_exponent
digits_no_double ds h = subst (λ (s : List ℕ). is_double s ≡ false) (append-nil ds) (no_double ds [] h refl refl)

-- ---- nor a uint, except with its suffix

last_is_digit : (ds : List ℕ) → IsNumeral 10 ds → is_unsigned ds ≡ false
last_is_digit ds h =
    let r : IsInRange 48 57 (get_or ds (length ds - 1) 0) = digit_at ds (length ds - 1) h.1 (omega (arith, h.0)) in
    rw (not_equal (get_or ds (length ds - 1) 0) 117 (λ e. absurd (omega (arith, e, r.1))), not_equal (get_or ds (length ds - 1) 0) 85 (λ e. absurd (omega (arith, e, r.1))))

pub int_digits : (negative : Bool) (ds : List ℕ) → IsNumeral 10 ds → number_value negative ds ≡ option_map int (int_value negative (digits_value 10 ds))
unfolding number_value
int_digits negative ds h = rw (digits_no_double ds h.1, last_is_digit ds h, integer_is ds h)

last_of : (ds : List ℕ) (b : ℕ) → get_or (ds ++ b ∷ []) (length (ds ++ b ∷ []) - 1) 0 ≡ b
last_of ds b =
    let n : length (ds ++ b ∷ []) - 1 ≡ length ds = omega (arith, length-append ds (b ∷ [])) in
    rw (n, get_or-append_right ds (b ∷ []) (length ds) (length ds) 0 refl (omega arith)) (first (length ds - length ds) (omega arith))
  where
    first : (k : ℕ) → k ≡ 0 → get_or (b ∷ []) k 0 ≡ b
    first zero e = refl
    first (suc k) e = absurd (omega arith)

front_of : (ds : List ℕ) (b : ℕ) → without_last (ds ++ b ∷ []) ≡ ds
front_of ds b =
    let n : length (ds ++ b ∷ []) - 1 ≡ length ds = omega (arith, length-append ds (b ∷ [])) in
    rw n (take-append-le (length ds) ds (b ∷ []) (omega arith) ∙ take_whole ds)
  where
    take_whole : (s : List ℕ) → take (length s) s ≡ s
    take_whole [] = refl
    take_whole (x ∷ s) = ap (λ (t : List ℕ). x ∷ t) (take_whole s)

pub uint_digits : (ds : List ℕ) → IsNumeral 10 ds → number_value false (ds ++ 117 ∷ []) ≡ option_map uint (uint_value false (digits_value 10 ds))
unfolding number_value is_exponent
uint_digits ds h =
    let unsigned : is_unsigned (ds ++ 117 ∷ []) ≡ true = rw (last_of ds 117) in
    rw (no_double ds (117 ∷ []) h.1 refl refl, unsigned, front_of ds 117, integer_is ds h)

-- ---- the text that std makes of a number

pub int_is : (n : ℕ) → n < 2 ^ 63 → number_value false (decimal n) ≡ Some (int (pos n))
unfolding int_value
int_is n h =
    let d = decimal_is_IsNumeral n (omega arith) in
    let fits : nat_lt n (2 ^ 63) ≡ true = le-leb (suc n) (2 ^ 63) (omega arith) in
    int_digits false (decimal n) d.0 ∙ rw (d.1, fits)

pub negative_is : (n : ℕ) → n ≤ 2 ^ 63 → number_value true (decimal n) ≡ Some (int (neg_ℤ (pos n)))
unfolding int_value
negative_is n h =
    let d = decimal_is_IsNumeral n (omega arith) in
    let fits : nat_le n (2 ^ 63) ≡ true = le-leb n (2 ^ 63) (omega arith) in
    int_digits true (decimal n) d.0 ∙ rw (d.1, fits)

pub uint_is : (n : ℕ) → n < 2 ^ 64 → number_value false (decimal n ++ 117 ∷ []) ≡ Some (uint n)
unfolding uint_value
uint_is n h =
    let d = decimal_is_IsNumeral n (omega arith) in
    let fits : nat_lt n (2 ^ 64) ≡ true = le-leb (suc n) (2 ^ 64) (omega arith) in
    uint_digits (decimal n) d.0 ∙ rw (d.1, fits)
