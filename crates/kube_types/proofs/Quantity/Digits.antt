-- The digits that a text starts with, and the number that they spell.
use Rattle.std.proofs.Common.{◌≡◌, ℕ, suc, ◌+◌, ◌-◌, ◌*◌, ◌<◌, ◌≤◌, Bool, true, false, cond, List, [], ◌∷◌, ◌++◌, length, take, drop, get_or, refl, sym, ◌∙◌, ap, subst, arith, add-one, drop-cons}
use Rattle.std.proofs.lemmas.Bool.Decides.{nat_tests}
use Rattle.std.proofs.Math.Nat.{le-mul_of_pos_right}
use Rattle.std.proofs.lemmas.Str.{digit_value_digit}
use Rattle.std.proofs.lemmas.Str.Parse.{digit_at}
use Rattle.std.specs.Char.{is_ascii_digit, digit_value}
use Rattle.std.specs.List.{prefix_len}
use Rattle.std.specs.Str.Parse.{AllDigits, digits_value, digits_value_after}

digit_below : (c : ℕ) → is_ascii_digit c ≡ true → digit_value c < 10
digit_below c h = grind (arith, nat_tests)

-- a text starts with its leading digits
leading_from : (c : ℕ) (rest : List ℕ) (b : Bool) → is_ascii_digit c ≡ b → AllDigits 10 (take (prefix_len is_ascii_digit rest) rest) → AllDigits 10 (take (cond b (1 + prefix_len is_ascii_digit rest) 0) (c ∷ rest))
leading_from c rest true h all =
    let one : suc (prefix_len is_ascii_digit rest) ≡ 1 + prefix_len is_ascii_digit rest = omega arith in
    let P : ℕ → Type 0 = λ k. AllDigits 10 (take k (c ∷ rest)) in
    let start : P (suc (prefix_len is_ascii_digit rest)) = (digit_below c h, all) in
    subst P one start
leading_from c rest false h all = tt

pub leading_are_digits : (text : List ℕ) → AllDigits 10 (take (prefix_len is_ascii_digit text) text)
leading_are_digits [] = tt
leading_are_digits (c ∷ rest) = leading_from c rest (is_ascii_digit c) refl (leading_are_digits rest)

-- reading digits in two steps
pub value_after_append : (n : ℕ) (xs ys : List ℕ) → digits_value_after 10 n (xs ++ ys) ≡ digits_value_after 10 (digits_value_after 10 n xs) ys
value_after_append n [] ys = refl
value_after_append n (x ∷ xs) ys = value_after_append (n * 10 + digit_value x) xs ys

-- more digits don't make the number smaller
pub value_after_above : (n : ℕ) (xs : List ℕ) → n ≤ digits_value_after 10 n xs
value_after_above n [] = omega arith
value_after_above n (x ∷ xs) = omega (arith, value_after_above (n * 10 + digit_value x) xs)

-- one digit is read
value_step : (n i : ℕ) (ds : List ℕ) → i < length ds
    → digits_value_after 10 n (drop i ds) ≡ digits_value_after 10 (n * 10 + digit_value (get_or ds i 0)) (drop (i + 1) ds)
value_step n i ds h = rw (add-one, drop-cons ds i 0) refl

-- one pass of a loop over the digits: the remaining digits
-- continue the number, which doesn't exceed the total
pub record Turn (n i next : ℕ) (ds : List ℕ) (total : ℕ) : Type 0 where
  pub left : digits_value_after 10 (n * 10 + next) (drop (i + 1) ds) ≡ total
  pub above : n * 10 + next ≤ total

pub turn_of : (n i next : ℕ) (ds : List ℕ) (total : ℕ) → i < length ds → AllDigits 10 ds → next ≡ get_or ds i 0 - 48
    → digits_value_after 10 n (drop i ds) ≡ total → Turn n i next ds total
turn_of n i next ds total h all is so_far =
    let digit : digit_value (get_or ds i 0) ≡ next = omega (arith, digit_value_digit (get_or ds i 0) (digit_at ds i all h)) in
    let left : digits_value_after 10 (n * 10 + next) (drop (i + 1) ds) ≡ total =
    ap (λ v. digits_value_after 10 (n * 10 + v) (drop (i + 1) ds)) (sym digit) ∙ sym (value_step n i ds h) ∙ so_far in
    record { left = left; above = omega (arith, left, value_after_above (n * 10 + next) (drop (i + 1) ds)) }

-- the digits before and after a point as one number
pub value_joined : (whole fraction : List ℕ) → digits_value 10 (whole ++ fraction) ≡ digits_value_after 10 (digits_value_after 10 0 whole) fraction
value_joined whole fraction = value_after_append 0 whole fraction

pub product_above : (n t : ℕ) → 0 < t → n ≤ n * t
product_above n t h = le-mul_of_pos_right {m = t} n h
