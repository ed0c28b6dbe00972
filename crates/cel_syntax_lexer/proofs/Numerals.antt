-- How std parses a numeral.
use Rattle.std.proofs.Common.{◌≡◌, ◌≢◌, ℕ, ◌^◌, ◌<◌, ◌≤◌, refl, subst, arith, Bool, true, false, Some, None, List, [], ◌∷◌, length, get_or, cond, ◌&&◌}
use Rattle.std.specs.Prelude.{nat_lt}
use Rattle.std.specs.List.{list_all}
use Rattle.std.specs.Option.{option_and_then}
use Rattle.std.specs.Result.{result_ok, OkIff}
use Rattle.std.specs.declared.result.Result.{Result}
use Rattle.std.specs.declared.result.Result.TheVariants.{Ok, Err}
use Rattle.std.specs.Str.{IsUtf8, IsAscii}
use Rattle.std.specs.Str.Parse.{AllDigits, IsNumeral, digits_value, without_leading_plus, ParsesUnsigned}
use Rattle.std.proofs.lemmas.Bool.{ltb-true}
use Rattle.std.proofs.lemmas.Bool.Decides.{nat_tests}
use Rattle.std.proofs.lemmas.Str.{IsUtf8-from_ascii}
use Rattle.std.proofs.lemmas.Str.Ascii.{IsAscii-nil, IsAscii-cons}
use Rattle.std.proofs.lemmas.Str.Parse.{without_leading_plus_none}
use Rattle.cel_syntax_lexer.specs.Number.{is_digit_in, is_numeral, numeral_value, of_64_bits}

pub both : (a b : Bool) → (a && b) ≡ true → (a ≡ true) × (b ≡ true)
both true b e = (refl, e)
both false b e = absurd (cc)

-- ---- digits are ASCII, and none is a plus

digit_ascii : (radix c : ℕ) → radix ≤ 36 → is_digit_in radix c ≡ true → c < 128
unfolding is_digit_in
digit_ascii radix c h e = grind (arith, nat_tests)

digits_ascii : (radix : ℕ) (ds : List ℕ) → radix ≤ 36 → list_all (is_digit_in radix) ds ≡ true → IsAscii ds
digits_ascii radix [] h e = IsAscii-nil
digits_ascii radix (c ∷ cs) h e =
    let parts = both (is_digit_in radix c) (list_all (is_digit_in radix) cs) e in
    IsAscii-cons c cs (digit_ascii radix c h parts.0) (digits_ascii radix cs h parts.1)

pub numeral_is_text : (radix : ℕ) (ds : List ℕ) → radix ≤ 36 → is_numeral radix ds ≡ true → IsUtf8 ds
unfolding is_numeral
numeral_is_text radix ds h e = IsUtf8-from_ascii ds (digits_ascii radix ds h (both _ _ e).1)

all_digits : (radix : ℕ) (ds : List ℕ) → list_all (is_digit_in radix) ds ≡ true → AllDigits radix ds
unfolding is_digit_in
all_digits radix [] e = tt
all_digits radix (c ∷ cs) e =
    let parts = both (is_digit_in radix c) (list_all (is_digit_in radix) cs) e in
    (ltb-true _ _ parts.0, all_digits radix cs parts.1)

plus_is_no_digit : (radix : ℕ) → radix ≤ 36 → is_digit_in radix 43 ≡ true → ⊥
unfolding is_digit_in
plus_is_no_digit radix h e = let lt : 36 < radix = ltb-true _ _ e in omega arith

no_plus : (radix : ℕ) (ds : List ℕ) → radix ≤ 36 → list_all (is_digit_in radix) ds ≡ true → get_or ds 0 0 ≢ 43
no_plus radix [] h e p = absurd (omega (arith, p))
no_plus radix (c ∷ cs) h e p =
    let digit : is_digit_in radix c ≡ true = (both (is_digit_in radix c) (list_all (is_digit_in radix) cs) e).0 in
    plus_is_no_digit radix h (subst (λ (x : ℕ). is_digit_in radix x ≡ true) p digit)

-- ---- what a numeral is parsed to

pub numeral_parts : (radix : ℕ) (ds : List ℕ) → radix ≤ 36 → is_numeral radix ds ≡ true → IsNumeral radix ds × (without_leading_plus ds ≡ ds)
unfolding is_numeral
numeral_parts radix ds h e =
    let parts = both (nat_lt 0 (length ds)) (list_all (is_digit_in radix) ds) e in
    ((ltb-true _ _ parts.0, all_digits radix ds parts.1), without_leading_plus_none ds (no_plus radix ds h parts.1))

number_read : {E : Type 0} (n : ℕ) (P : Type 0) (r : Result ℕ E) → P → OkIff r (P × (n < 2 ^ 64)) n → result_ok r ≡ of_64_bits n
number_read n P (Ok x) p o = let fits : nat_lt n (2 ^ 64) ≡ true = grind (arith, nat_tests, o.0.1) in rw (fits, o.1)
number_read n P (Err e) p o = at (nat_lt n (2 ^ 64)) refl
  where
    at : (b : Bool) → nat_lt n (2 ^ 64) ≡ b → None ≡ cond b (Some n) None
    at true fits = absurd (o (p, ltb-true _ _ fits))
    at false fits = refl

pub numeral_read : {E : Type 0} (radix : ℕ) (ds : List ℕ) (r : Result ℕ E) → radix ≤ 36 → is_numeral radix ds ≡ true → ParsesUnsigned 64 radix ds r
    → result_ok r ≡ option_and_then of_64_bits (numeral_value radix ds)
unfolding numeral_value
numeral_read {E} radix ds r h e read =
    let parts = numeral_parts radix ds h e in
    let P : List ℕ → Type 0 = λ cs. OkIff r (IsNumeral radix cs × (digits_value radix cs < 2 ^ 64)) (digits_value radix cs) in
    rw e (number_read (digits_value radix ds) (IsNumeral radix ds) r parts.0 (subst P parts.1 read))
