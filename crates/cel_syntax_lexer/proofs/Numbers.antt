-- The longest number is made of its longest parts.
use Rattle.std.proofs.Common.{◌≡◌, ℕ, suc, zero, ◌+◌, ◌<◌, refl, sym, subst, arith, Bool, true, false, List, ◌∷◌, drop, ◌||◌}
use Rattle.std.specs.Prelude.{max}
use Rattle.std.specs.List.{prefix_len}
use Rattle.std.specs.Char.{is_ascii_digit, is_ascii_hexdigit}
use Rattle.cel_syntax_lexer.specs.Spelling.{is_end, is_byte, is_either, begins, one_then, some_then, LongestSpelling, longer}
use Rattle.cel_syntax_lexer.specs.Numbers.{is_digits, is_signed, is_power, is_exponent, is_end_or_exponent, is_after_dot, is_fraction, is_end_or_suffix, is_after_x, is_after_zero, is_hexadecimal, is_after_digits, is_decimal, is_number}
use Rattle.cel_syntax_lexer.proofs.Spelling.{class_is_not, longest_end, longest_either, longest_no_one, longest_one, longest_one_and_more, longest_no_some, longest_some}

-- ---- no part begins with a byte of the part before it

digit_is_no_exponent : (b : ℕ) (z : List ℕ) → is_ascii_digit b ≡ true → is_exponent (b ∷ z) ≡ false
unfolding is_exponent
digit_is_no_exponent b z is = rw (class_is_not is_ascii_digit 101 b refl is, class_is_not is_ascii_digit 69 b refl is)

digit_is_no_fraction : (b : ℕ) (z : List ℕ) → is_ascii_digit b ≡ true → is_fraction (b ∷ z) ≡ false
unfolding is_fraction
digit_is_no_fraction b z is = rw (class_is_not is_ascii_digit 46 b refl is)

class_is_no_suffix : (p : ℕ → Bool) → p 117 ≡ false → p 85 ≡ false → (b : ℕ) (z : List ℕ) → p b ≡ true → is_end_or_suffix (b ∷ z) ≡ false
unfolding is_end_or_suffix
class_is_no_suffix p small large b z is = rw (class_is_not p 117 b small is, class_is_not p 85 b large is)

digit_is_not_after_digits : (b : ℕ) (z : List ℕ) → is_ascii_digit b ≡ true → is_after_digits (b ∷ z) ≡ false
unfolding is_after_digits
digit_is_not_after_digits b z is = rw (class_is_no_suffix is_ascii_digit refl refl b z is, digit_is_no_fraction b z is, digit_is_no_exponent b z is)

-- ---- the parts

pub longest_digits : (z : List ℕ) → LongestSpelling is_digits z (prefix_len is_ascii_digit z)
longest_digits z = go (prefix_len is_ascii_digit z) refl
  where
    go : (n : ℕ) → prefix_len is_ascii_digit z ≡ n → LongestSpelling is_digits z (prefix_len is_ascii_digit z)
    go zero e = subst (λ i. LongestSpelling is_digits z i) (sym e) (longest_no_some is_ascii_digit is_end z e)
    go (suc n) e =
        let all : prefix_len is_ascii_digit z + 0 ≡ prefix_len is_ascii_digit z = omega arith in
        subst (λ i. LongestSpelling is_digits z i) all
        (longest_some is_ascii_digit is_end (λ b y is. refl) refl z 0 (omega arith) (longest_end (drop (prefix_len is_ascii_digit z) z)))

pub longest_signed : (z : List ℕ) (n : ℕ) → begins (is_either 43 45) z ≡ true → LongestSpelling is_digits (drop 1 z) n → LongestSpelling is_signed z (longer n)
unfolding some_then
longest_signed z n e r = longest_one_and_more (is_either 43 45) is_digits z n e refl r

pub longest_power : (z : List ℕ) (m n : ℕ) → LongestSpelling is_digits z m → LongestSpelling is_signed z n → LongestSpelling is_power z (max m n)
longest_power z m n a b = longest_either is_digits is_signed z m n a b

pub longest_exponent : (z : List ℕ) (n : ℕ) → begins (is_either 101 69) z ≡ true → LongestSpelling is_power (drop 1 z) n → LongestSpelling is_exponent z (longer n)
unfolding some_then is_exponent
longest_exponent z n e r = longest_one_and_more (is_either 101 69) is_power z n e refl r

pub no_exponent : (z : List ℕ) → begins (is_either 101 69) z ≡ false → LongestSpelling is_exponent z 0
unfolding is_exponent
no_exponent z e = longest_no_one (is_either 101 69) is_power z e

pub longest_after_dot : (z : List ℕ) (n : ℕ) → 0 < prefix_len is_ascii_digit z → LongestSpelling is_exponent (drop (prefix_len is_ascii_digit z) z) n
    → LongestSpelling is_after_dot z (prefix_len is_ascii_digit z + n)
longest_after_dot z n some r =
    let rest = drop (prefix_len is_ascii_digit z) z in
    let all : max 0 n ≡ n = omega arith in
    longest_some is_ascii_digit is_end_or_exponent digit_is_no_exponent refl z n some
    (subst (λ i. LongestSpelling is_end_or_exponent rest i) all (longest_either is_end is_exponent rest 0 n (longest_end rest) r))

pub no_after_dot : (z : List ℕ) → prefix_len is_ascii_digit z ≡ 0 → LongestSpelling is_after_dot z 0
no_after_dot z e = longest_no_some is_ascii_digit is_end_or_exponent z e

pub longest_fraction : (z : List ℕ) (n : ℕ) → begins (is_byte 46) z ≡ true → LongestSpelling is_after_dot (drop 1 z) n → LongestSpelling is_fraction z (longer n)
unfolding some_then is_fraction
longest_fraction z n e r = longest_one_and_more (is_byte 46) is_after_dot z n e refl r

pub no_fraction : (z : List ℕ) → begins (is_byte 46) z ≡ false → LongestSpelling is_fraction z 0
unfolding is_fraction
no_fraction z e = longest_no_one (is_byte 46) is_after_dot z e

pub longest_suffix : (z : List ℕ) → begins (is_either 117 85) z ≡ true → LongestSpelling is_end_or_suffix z 1
unfolding is_end_or_suffix
longest_suffix z e =
    longest_either is_end (one_then (is_either 117 85) is_end) z 0 1 (longest_end z) (longest_one (is_either 117 85) is_end z 0 e refl (longest_end (drop 1 z)))

pub no_suffix : (z : List ℕ) → begins (is_either 117 85) z ≡ false → LongestSpelling is_end_or_suffix z 0
unfolding is_end_or_suffix
no_suffix z e = longest_either is_end (one_then (is_either 117 85) is_end) z 0 0 (longest_end z) (longest_no_one (is_either 117 85) is_end z e)

pub longest_after_x : (z : List ℕ) (n : ℕ) → 0 < prefix_len is_ascii_hexdigit z → LongestSpelling is_end_or_suffix (drop (prefix_len is_ascii_hexdigit z) z) n
    → LongestSpelling is_after_x z (prefix_len is_ascii_hexdigit z + n)
unfolding is_end_or_suffix
longest_after_x z n some r = longest_some is_ascii_hexdigit is_end_or_suffix (class_is_no_suffix is_ascii_hexdigit refl refl) refl z n some r

pub no_after_x : (z : List ℕ) → prefix_len is_ascii_hexdigit z ≡ 0 → LongestSpelling is_after_x z 0
no_after_x z e = longest_no_some is_ascii_hexdigit is_end_or_suffix z e

pub longest_after_zero : (z : List ℕ) (n : ℕ) → begins (is_byte 120) z ≡ true → LongestSpelling is_after_x (drop 1 z) n → LongestSpelling is_after_zero z (longer n)
unfolding some_then
longest_after_zero z n e r = longest_one_and_more (is_byte 120) is_after_x z n e refl r

pub no_after_zero : (z : List ℕ) → begins (is_byte 120) z ≡ false → LongestSpelling is_after_zero z 0
no_after_zero z e = longest_no_one (is_byte 120) is_after_x z e

pub longest_hexadecimal : (z : List ℕ) (n : ℕ) → begins (is_byte 48) z ≡ true → LongestSpelling is_after_zero (drop 1 z) n → LongestSpelling is_hexadecimal z (longer n)
unfolding is_hexadecimal
longest_hexadecimal z n e r = longest_one_and_more (is_byte 48) is_after_zero z n e refl r

pub no_hexadecimal : (z : List ℕ) → begins (is_byte 48) z ≡ false → LongestSpelling is_hexadecimal z 0
unfolding is_hexadecimal
no_hexadecimal z e = longest_no_one (is_byte 48) is_after_zero z e

pub longest_after_digits : (z : List ℕ) (a b c : ℕ) → LongestSpelling is_end_or_suffix z a → LongestSpelling is_fraction z b → LongestSpelling is_exponent z c
    → LongestSpelling is_after_digits z (max (max a b) c)
unfolding is_after_digits
longest_after_digits z a b c suffix fraction exponent =
    longest_either (λ y. is_end_or_suffix y || is_fraction y) is_exponent z (max a b) c (longest_either is_end_or_suffix is_fraction z a b suffix fraction) exponent

pub longest_decimal : (z : List ℕ) (n : ℕ) → 0 < prefix_len is_ascii_digit z → LongestSpelling is_after_digits (drop (prefix_len is_ascii_digit z) z) n
    → LongestSpelling is_decimal z (prefix_len is_ascii_digit z + n)
unfolding is_decimal is_after_digits is_end_or_suffix
longest_decimal z n some r = longest_some is_ascii_digit is_after_digits digit_is_not_after_digits refl z n some r

pub no_decimal : (z : List ℕ) → prefix_len is_ascii_digit z ≡ 0 → LongestSpelling is_decimal z 0
unfolding is_decimal
no_decimal z e = longest_no_some is_ascii_digit is_after_digits z e

pub longest_number : (z : List ℕ) (a b c : ℕ) → LongestSpelling is_hexadecimal z a → LongestSpelling is_fraction z b → LongestSpelling is_decimal z c
    → LongestSpelling is_number z (max (max a b) c)
unfolding is_number
longest_number z a b c hexadecimal fraction decimal =
    longest_either (λ y. is_hexadecimal y || is_fraction y) is_decimal z (max a b) c (longest_either is_hexadecimal is_fraction z a b hexadecimal fraction) decimal
