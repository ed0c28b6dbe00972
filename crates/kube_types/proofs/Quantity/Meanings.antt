-- The quantity of a text from its parts, and the result of a sum.
use Rattle.std.proofs.Common.{◌≡◌, ◌≢◌, ℕ, ◌+◌, ◌*◌, ◌^◌, ◌<◌, ◌++◌, ◌&&◌, Bool, true, false, cond, ltb, ℤ, pos, ◌+ℤ◌, ◌-ℤ◌, List, [], length, sym, ◌∙◌, ap, arith}
use Rattle.std.proofs.lemmas.Bool.Decides.{nat_tests}
use Rattle.std.specs.Int.{w128, int_min}
use Rattle.std.specs.Prelude.{FitsSigned, Some, None, option_and_then}
use Rattle.std.specs.Str.{trim}
use Rattle.std.specs.Str.Parse.{AllDigits, digits_value, starts_with_minus, without_leading_sign}
use Rattle.kube_types.specs.Quantity.Decimal.{Decimal, aligned_mantissa, with_sign}
use Rattle.kube_types.specs.Quantity.Normal.{fits, quantity_holding}
use Rattle.kube_types.specs.Quantity.Reading.{leading_digits, has_point, after_point, fraction_digits, suffix_of, factor_of, value_of, unsigned_quantity, quantity_of}
use Rattle.kube_types.specs.Quantity.Sums.{decimal_at, combination, sum_of, difference_of}
use Rattle.kube_types.specs.declared.quantities.reading.Factor.{Factor}
use Rattle.kube_types.proofs.Quantity.Digits.{leading_are_digits}
use Rattle.kube_types.proofs.Quantity.Forms.{fits_128}
use Rattle.kube_types.proofs.Quantity.Zeros.{not_equal}

all_either : (b : Bool) (text : List ℕ) → AllDigits 10 (cond b (leading_digits text) [])
all_either true text = leading_are_digits text
all_either false text = tt

pub fraction_are_digits : (text : List ℕ) → AllDigits 10 (fraction_digits text)
unfolding fraction_digits
fraction_are_digits text = all_either (has_point text) (after_point text)

below : (a b : ℕ) → a < b → ltb a b ≡ true
below a b h = grind (arith, nat_tests)

value_is : (negative : Bool) (digits : List ℕ) (places : ℕ) (factor : Factor) → digits_value 10 digits * factor.times < 2 ^ 127
    → value_of negative digits places factor ≡ quantity_holding (decimal_at (with_sign negative (digits_value 10 digits * factor.times)) (factor.tens -ℤ pos places))
unfolding value_of
value_is negative digits places factor h =
    ap (λ b. cond b (quantity_holding (decimal_at (with_sign negative (digits_value 10 digits * factor.times)) (factor.tens -ℤ pos places))) None) (below (digits_value 10 digits * factor.times) (2 ^ 127) h)

unsigned_is : (negative : Bool) (text : List ℕ) (factor : Factor) → length (leading_digits text) + length (fraction_digits text) ≢ 0 → Some factor ≡ factor_of (suffix_of text)
    → unsigned_quantity negative text ≡ value_of negative (leading_digits text ++ fraction_digits text) (length (fraction_digits text)) factor
unfolding unsigned_quantity
unsigned_is negative text factor some e =
    let value = value_of negative (leading_digits text ++ fraction_digits text) (length (fraction_digits text)) in
    ap (λ b. cond b None (option_and_then value (factor_of (suffix_of text)))) (not_equal (length (leading_digits text) + length (fraction_digits text)) 0 some)
    ∙ ap (option_and_then value) (sym e)

-- the parts that a text is split into
pub record Parts (text : List ℕ) (negative : Bool) (unsigned whole fraction suffix : List ℕ) : Type 0 where
  pub sign : negative ≡ starts_with_minus (trim text)
  pub rest : unsigned ≡ without_leading_sign (trim text)
  pub before : whole ≡ leading_digits unsigned
  pub after : fraction ≡ fraction_digits unsigned
  pub last : suffix ≡ suffix_of unsigned

-- the quantity of a text that parses
pub meaning_is : (text : List ℕ) (negative : Bool) (unsigned whole fraction suffix : List ℕ) (factor : Factor) (size : ℕ) (mantissa scale : ℤ)
    → Parts text negative unsigned whole fraction suffix → length whole + length fraction ≢ 0 → Some factor ≡ factor_of suffix
    → size ≡ digits_value 10 (whole ++ fraction) * factor.times → size < 2 ^ 127 → mantissa ≡ with_sign negative size
    → scale ≡ factor.tens -ℤ pos (length fraction) → quantity_holding (decimal_at mantissa scale) ≡ quantity_of text
unfolding quantity_of
meaning_is text negative unsigned whole fraction suffix factor size mantissa scale p some e size_is bound mantissa_is scale_is =
    let here = leading_digits unsigned in
    let there = fraction_digits unsigned in
    let digits : whole ++ fraction ≡ here ++ there = λ i. p.before i ++ p.after i in
    let lengths : length whole + length fraction ≡ length here + length there = λ i. length (p.before i) + length (p.after i) in
    let total : size ≡ digits_value 10 (here ++ there) * factor.times = size_is ∙ ap (λ d. digits_value 10 d * factor.times) digits in
    let fitting : digits_value 10 (here ++ there) * factor.times < 2 ^ 127 = omega (arith, total, bound) in
    let m : mantissa ≡ with_sign negative (digits_value 10 (here ++ there) * factor.times) = mantissa_is ∙ ap (with_sign negative) total in
    let s : scale ≡ factor.tens -ℤ pos (length there) = scale_is ∙ ap (λ d. factor.tens -ℤ pos (length d)) p.after in
    let value = value_is negative (here ++ there) (length there) factor fitting in
    let parts = unsigned_is negative unsigned factor (λ none. some (lengths ∙ none)) (e ∙ ap factor_of p.last) in
    (λ i. quantity_holding (decimal_at (m i) (s i))) ∙ sym value ∙ sym parts
    ∙ (λ i. unsigned_quantity (p.sign i) (p.rest i))

-- the result of an operation that fits
combined_is : (op : ℤ → ℤ → ℤ) (x y : Decimal) (left right result : ℤ) → FitsSigned w128 (aligned_mantissa x y) → left ≡ aligned_mantissa x y → FitsSigned w128 (aligned_mantissa y x) → right ≡ aligned_mantissa y x
    → FitsSigned w128 (op left right) → result ≡ op left right → quantity_holding (decimal_at result (int_min x.scale y.scale)) ≡ combination op x y
combined_is op x y left right result f e g h k s =
    let total : op left right ≡ op (aligned_mantissa x y) (aligned_mantissa y x) = λ i. op (e i) (h i) in
    let all : (fits 127 (aligned_mantissa x y) && (fits 127 (aligned_mantissa y x) && fits 127 (op (aligned_mantissa x y) (aligned_mantissa y x)))) ≡ true =
    λ i. fits_128 (aligned_mantissa x y) f i && (fits_128 (aligned_mantissa y x) g i && (ap (fits 127) (sym total) ∙ fits_128 (op left right) k) i) in
    (λ i. quantity_holding (decimal_at ((s ∙ total) i) (int_min x.scale y.scale)))
    ∙ sym (ap (λ b. cond b (quantity_holding (decimal_at (op (aligned_mantissa x y) (aligned_mantissa y x)) (int_min x.scale y.scale))) None) all)

-- a sum whose operands and result fit
pub sum_is : (x y : Decimal) (left right sum : ℤ) → FitsSigned w128 (aligned_mantissa x y) → left ≡ aligned_mantissa x y → FitsSigned w128 (aligned_mantissa y x) → right ≡ aligned_mantissa y x
    → FitsSigned w128 (left +ℤ right) → sum ≡ left +ℤ right → quantity_holding (decimal_at sum (int_min x.scale y.scale)) ≡ sum_of x y
unfolding sum_of
sum_is = combined_is (λ a b. a +ℤ b)

-- a difference whose operands and result fit
pub difference_is : (x y : Decimal) (left right difference : ℤ) → FitsSigned w128 (aligned_mantissa x y) → left ≡ aligned_mantissa x y → FitsSigned w128 (aligned_mantissa y x) → right ≡ aligned_mantissa y x
    → FitsSigned w128 (left -ℤ right) → difference ≡ left -ℤ right → quantity_holding (decimal_at difference (int_min x.scale y.scale)) ≡ difference_of x y
unfolding difference_of
difference_is = combined_is (λ a b. a -ℤ b)
