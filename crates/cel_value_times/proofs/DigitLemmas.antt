-- Decimal digits and the numbers that they denote.
use Rattle.std.proofs.Common.{◌≡◌, ℕ, zero, suc, ◌+◌, ◌-◌, ◌*◌, ◌/◌, ◌%◌, ◌^◌, ◌<◌, ◌≤◌, ◌==◌, Bool, true, false, cond, List, [], ◌∷◌, ◌++◌, length, drop, append_assoc, get_or, add-one, drop-cons, subst, refl, sym, ap, ◌∙◌, arith, rules}
use Rattle.std.proofs.Math.Nat.{mul-le-mul_left, pow-suc, pow-succ', div-div-eq-div-mul, mul-add-div_right, one-le-pow, le-mul_of_pos_right, pow-le-pow_right}
use Rattle.std.proofs.Math.Seq.{take-append_seam, drop-append_seam}
use Rattle.std.proofs.lemmas.Bool.{and_parts, ne_eqb}
use Rattle.std.proofs.lemmas.Bool.Decides.{nat_tests}
use Rattle.std.proofs.lemmas.List.{take-append-drop}
use Rattle.std.proofs.lemmas.List.Sums.{take_while-cons}
use Rattle.std.proofs.lemmas.Nat.{div_below, mod_below}
use Rattle.std.proofs.lemmas.Str.Parse.{IsNumeralModel, numerals_by_weight, tells_all_ascii_digits}
use Rattle.std.specs.Char.{is_ascii_digit}
use Rattle.std.specs.List.{prefix_len, take_while}
use Rattle.std.specs.Str.{all_ascii_digits}
use Rattle.cel_value_times.specs.Digits.{number, cut_part, places_text}
use Rattle.cel_value_times.specs.Fronts.{leading_digits, after_digits}

-- the code of a digit is from 48 to 57
pub digit_below : (c : ℕ) → is_ascii_digit c ≡ true → (48 ≤ c) × (c < 58)
digit_below c h = (grind (arith, nat_tests), grind (arith, nat_tests))

pub first_digit : (c : ℕ) (cs : List ℕ) → all_ascii_digits (c ∷ cs) ≡ true → (is_ascii_digit c ≡ true) × (all_ascii_digits cs ≡ true)
first_digit c cs h = and_parts (is_ascii_digit c) (all_ascii_digits cs) h

-- `number` is a model of numerals as the standard library defines it
pub numerals : IsNumeralModel (λ ds. all_ascii_digits ds ≡ true) number
numerals = numerals_by_weight _ tells_all_ascii_digits number (search rules)

pub tenfold : (k : ℕ) → 10 ^ suc k ≡ 10 * 10 ^ k
tenfold k = pow-succ' 10 k

pub pow_positive : (k : ℕ) → 0 < 10 ^ k
pow_positive k = let h : 1 ≤ 10 ^ k = one-le-pow k 10 (omega arith) in omega arith

-- one more digit is parsed
pub number_step : (n c : ℕ) (cs : List ℕ) → n * 10 ^ length (c ∷ cs) + number (c ∷ cs) ≡ (n * 10 + (c - 48)) * 10 ^ length cs + number cs
number_step n c cs =
    ap (λ (p : ℕ). n * p + ((c - 48) * 10 ^ length cs + number cs)) (tenfold (length cs)) ∙ regroup n (c - 48) (10 ^ length cs) (number cs)
  where
    regroup : (n d x rest : ℕ) → n * (10 * x) + (d * x + rest) ≡ (n * 10 + d) * x + rest
    regroup n d x rest = omega arith

-- the number so far is at most the whole number
pub number_so_far : (n : ℕ) (cs : List ℕ) → n ≤ n * 10 ^ length cs + number cs
number_so_far n cs = let h : n ≤ n * 10 ^ length cs = le-mul_of_pos_right n (pow_positive (length cs)) in omega arith

-- the digits after a dot, from the last to the first
pub cut_part_step : (parts c : ℕ) (cs : List ℕ) → cut_part parts (c ∷ cs) ≡ (parts * (c - 48) + cut_part parts cs) / 10
cut_part_step parts c cs =
    let power = 10 ^ length cs in
    let turned : 10 ^ suc (length cs) ≡ power * 10 = pow-suc 10 (length cs) in
    let regrouped : ((c - 48) * power + number cs) * parts ≡ (parts * (c - 48)) * power + number cs * parts = omega arith in
    ap (λ d. ((c - 48) * power + number cs) * parts / d) turned
    ∙ (sym (div-div-eq-div-mul (((c - 48) * power + number cs) * parts) power 10)
    ∙ ap (λ n. n / 10) (ap (λ n. n / power) regrouped ∙ mul-add-div_right (pow_positive (length cs)) (parts * (c - 48)) (number cs * parts)))

pub cut_part_below : (parts : ℕ) (cs : List ℕ) → 0 < parts → all_ascii_digits cs ≡ true → cut_part parts cs < parts
cut_part_below parts [] some h = omega arith
cut_part_below parts (c ∷ cs) some h =
    let here = digit_below c (first_digit c cs h).0 in
    let rest = cut_part_below parts cs some (first_digit c cs h).1 in
    let few : parts * (c - 48) ≤ parts * 9 = mul-le-mul_left parts (omega arith) in
    rw (cut_part_step parts c cs) (div_below (parts * (c - 48) + cut_part parts cs) 10 parts (omega arith) (omega arith))

-- the leading digits are digits, and the text after them starts with none
pub leading_are_digits : (text : List ℕ) → all_ascii_digits (leading_digits text) ≡ true
leading_are_digits [] = refl
leading_are_digits (c ∷ cs) = rw (take_while-cons is_ascii_digit c cs) (by_first c cs (is_ascii_digit c) refl (leading_are_digits cs)) where
  by_first : (c : ℕ) (cs : List ℕ) (b : Bool) → is_ascii_digit c ≡ b → all_ascii_digits (take_while is_ascii_digit cs) ≡ true → all_ascii_digits (cond b (c ∷ take_while is_ascii_digit cs) []) ≡ true
  by_first c cs true e h = rw e h
  by_first c cs false e h = refl

pub digits_then_rest : (text : List ℕ) → leading_digits text ++ after_digits text ≡ text
digits_then_rest text = take-append-drop (prefix_len is_ascii_digit text) text

pub run_len : (digits rest : List ℕ) → all_ascii_digits digits ≡ true → prefix_len is_ascii_digit rest ≡ 0 → prefix_len is_ascii_digit (digits ++ rest) ≡ length digits
run_len [] rest h e = e
run_len (c ∷ cs) rest h e =
    let parts = first_digit c cs h in
    let first = parts.0 in
    let more = run_len cs rest parts.1 e in
    rw first (grind arith)

pub leading_run : (digits rest : List ℕ) → all_ascii_digits digits ≡ true → prefix_len is_ascii_digit rest ≡ 0 → leading_digits (digits ++ rest) ≡ digits
leading_run digits rest h e = rw (run_len digits rest h e) (take-append_seam digits rest)

pub after_run : (digits rest : List ℕ) → all_ascii_digits digits ≡ true → prefix_len is_ascii_digit rest ≡ 0 → after_digits (digits ++ rest) ≡ rest
after_run digits rest h e = rw (run_len digits rest h e) (drop-append_seam digits rest)

pub digit_in : (digits : List ℕ) (i : ℕ) → all_ascii_digits digits ≡ true → i < length digits → (48 ≤ get_or digits i 0) × (get_or digits i 0 < 58)
digit_in [] i h lt = absurd (omega arith)
digit_in (c ∷ cs) zero h lt = digit_below c (first_digit c cs h).0
digit_in (c ∷ cs) (suc i) h lt = digit_in cs i (first_digit c cs h).1 (omega arith)

-- one more digit, at an index of the list
pub number_at : (digits : List ℕ) (i n : ℕ) → i < length digits → n * 10 ^ length (drop i digits) + number (drop i digits) ≡ number digits → (n * 10 + (get_or digits i 0 - 48)) * 10 ^ length (drop (i + 1) digits) + number (drop (i + 1) digits) ≡ number digits
number_at digits i n lt e =
    rw add-one (sym (number_step n (get_or digits i 0) (drop (suc i) digits))
    ∙ (ap (λ (r : List ℕ). n * 10 ^ length r + number r) (sym (drop-cons digits i 0 lt)) ∙ e))

pub number_at_least : (digits : List ℕ) (i n : ℕ) → i < length digits → n * 10 ^ length (drop i digits) + number (drop i digits) ≡ number digits → n * 10 + (get_or digits i 0 - 48) ≤ number digits
number_at_least digits i n lt e =
    let more = number_at digits i n lt e in
    let least = number_so_far (n * 10 + (get_or digits i 0 - 48)) (drop (i + 1) digits) in
    omega arith

pub digits_left : (digits : List ℕ) (i : ℕ) → i < length digits → all_ascii_digits (drop i digits) ≡ true → (48 ≤ get_or digits i 0) × (get_or digits i 0 < 58) × (all_ascii_digits (drop (i + 1) digits) ≡ true)
digits_left digits i lt h =
    let here = first_digit (get_or digits i 0) (drop (suc i) digits) (subst (λ (r : List ℕ). all_ascii_digits r ≡ true) (drop-cons digits i 0 lt) h) in
    let range = digit_below (get_or digits i 0) here.0 in
    (range.0, range.1, rw add-one here.1)

-- the index before those that are done
pub cut_part_at : (parts : ℕ) (digits : List ℕ) (i : ℕ) → i < length digits → cut_part parts (drop i digits) ≡ (parts * (get_or digits i 0 - 48) + cut_part parts (drop (i + 1) digits)) / 10
cut_part_at parts digits i lt =
    rw add-one (ap (cut_part parts) (drop-cons digits i 0 lt) ∙ cut_part_step parts (get_or digits i 0) (drop (suc i) digits))

-- the decimal places of a number
pub places_zero : (places n : ℕ) → n ≡ 0 → places_text places n ≡ []
unfolding places_text
places_zero zero n e = refl
places_zero (suc places) n e = rw e refl

pub places_some : (places n : ℕ) → n < 10 ^ places → (n ≡ 0 → ⊥) → 0 < places
places_some zero n few some = absurd (some (omega arith))
places_some (suc places) n few some = omega arith

pub places_step : (places n : ℕ) → 0 < places → (n ≡ 0 → ⊥) → places_text places n ≡ (48 + n / 10 ^ (places - 1)) ∷ places_text (places - 1) (n % 10 ^ (places - 1))
unfolding places_text
places_step zero n h some = absurd (omega arith)
places_step (suc places) n h some =
    let back : suc places - 1 ≡ places = omega arith in
    let no : (n == 0) ≡ false = ne_eqb n 0 some in
    rw (back, no) refl

pub place_bounds : (places n : ℕ) → places ≤ 9 → n < 10 ^ places → 0 < places → (0 < 10 ^ (places - 1)) × (10 ^ (places - 1) ≤ 10 ^ 9) × (n / 10 ^ (places - 1) < 10) × (n % 10 ^ (places - 1) < 10 ^ (places - 1))
place_bounds places n most few some =
    let positive = pow_positive (places - 1) in
    let there : suc (places - 1) ≡ places = omega arith in
    let turned : 10 ^ places ≡ 10 ^ (places - 1) * 10 = ap (λ (k : ℕ). 10 ^ k) (sym there) ∙ pow-suc 10 (places - 1) in
    let ten : 0 < 10 = omega arith in
    let last : places - 1 ≤ 9 = omega arith in
    (positive, pow-le-pow_right ten last, div_below n (10 ^ (places - 1)) 10 positive (omega arith), mod_below n (10 ^ (places - 1)) positive)

-- one more place is written
pub places_more : (bytes : List ℕ) (places n place : ℕ) → place ≡ 10 ^ (places - 1) → n < 10 ^ places → (n ≡ 0 → ⊥) → (bytes ++ ((48 + n / place) ∷ [])) ++ places_text (places - 1) (n % place) ≡ bytes ++ places_text places n
places_more bytes places n place e few some =
    let positive = places_some places n few some in
    rw (append_assoc, e) (ap (λ (t : List ℕ). bytes ++ t) (sym (places_step places n positive some)))
