-- Digits after a percent sign and a dot. A number that exceeds
-- 64 bits is an invalid precision, whatever digits follow.
use Rattle.std.proofs.Common.{◌≡◌, ℕ, ◌+◌, ◌*◌, ◌^◌, ◌<◌, ◌≤◌, arith, List, [], ◌∷◌, ◌++◌, length, Bool, true, false, cond, Option, Some, None, refl, ap, ◌∙◌}
use Rattle.std.specs.Char.{digit_value, is_digit}
use Rattle.std.specs.Str.Parse.{AllDigits, digits_value, digits_value_after}
use Rattle.std.proofs.lemmas.Bool.{lt-ltb, le-ltb}
use Rattle.kube_functions_format.specs.Pieces.{Piece, verb, no_precision, ends_in_precision, is_precision, with_digit, pieces, behind_digits}

either : (b : Bool) (x y z : List Piece) → x ≡ z → y ≡ z → cond b x y ≡ z
either true x y z h k = h
either false x y z h k = k

no_more : (n : ℕ) → 2 ^ 64 ≤ n → is_precision (Some n) ≡ false
no_more n h = le-ltb n (2 ^ 64) h

pub too_large : (n : ℕ) (cs : List ℕ) → 2 ^ 64 ≤ n → behind_digits (Some n) cs ≡ no_precision ∷ []
too_large n [] h = ap (λ b. cond b ends_in_precision no_precision ∷ []) (no_more n h)
too_large n (c ∷ cs) h =
    let more : 2 ^ 64 ≤ with_digit (Some n) (digit_value c) = omega arith in
    either (is_digit c 10) _ _ (no_precision ∷ []) (too_large (with_digit (Some n) (digit_value c)) cs more)
    (ap (λ b. cond b (verb c ∷ pieces cs) (no_precision ∷ [])) (no_more n h))

-- one more digit
pub digit_more : (n : Option ℕ) (c : ℕ) (cs : List ℕ) → digit_value c < 10 → behind_digits n (c ∷ cs) ≡ behind_digits (Some (with_digit n (digit_value c))) cs
digit_more n c cs h = ap (λ b. cond b (behind_digits (Some (with_digit n (digit_value c))) cs) (cond (is_precision n) (verb c ∷ pieces cs) (no_precision ∷ []))) (lt-ltb (digit_value c) 10 h)

-- a character that isn't a digit
pub digits_end : (n : Option ℕ) (b : Bool) (c : ℕ) (cs : List ℕ) → 10 ≤ digit_value c → is_precision n ≡ b → behind_digits n (c ∷ cs) ≡ cond b (verb c ∷ pieces cs) (no_precision ∷ [])
digits_end n b c cs h e =
    ap (λ t. cond t (behind_digits (Some (with_digit n (digit_value c))) cs) (cond (is_precision n) (verb c ∷ pieces cs) (no_precision ∷ []))) (le-ltb (digit_value c) 10 h)
    ∙ ap (λ t. cond t (verb c ∷ pieces cs) (no_precision ∷ [])) e

digits_read : (ds : List ℕ) (n : ℕ) (cs : List ℕ) → AllDigits 10 ds → behind_digits (Some n) (ds ++ cs) ≡ behind_digits (Some (digits_value_after 10 n ds)) cs
digits_read [] n cs h = refl
digits_read (d ∷ ds) n cs h = digit_more (Some n) d (ds ++ cs) h.0 ∙ digits_read ds (n * 10 + digit_value d) cs h.1

-- the digits of a number that fits in 64 bits, and a character that isn't a digit
pub precise : (ds : List ℕ) (c : ℕ) (cs : List ℕ) → 0 < length ds → AllDigits 10 ds → digits_value 10 ds < 2 ^ 64 → 10 ≤ digit_value c → behind_digits None (ds ++ c ∷ cs) ≡ verb c ∷ pieces cs
precise [] c cs some h small other = absurd (omega (arith, some))
precise (d ∷ ds) c cs some h small other =
    digit_more None d (ds ++ c ∷ cs) h.0 ∙ digits_read ds (0 * 10 + digit_value d) (c ∷ cs) h.1
    ∙ digits_end (Some (digits_value 10 (d ∷ ds))) true c cs other (lt-ltb (digits_value 10 (d ∷ ds)) (2 ^ 64) small)
