-- A text parses as a quantity exactly if it is spelled as one.
use Rattle.std.proofs.Common.{◌≡◌, ℕ, suc, ◌+◌, ◌*◌, ◌^◌, ◌<◌, ◌&&◌, ◌||◌, ◌↔◌, Bool, true, false, cond, eqb, ltb, ℤ, pos, negsuc, ◌-ℤ◌, ◌⊎◌, List, [], ◌∷◌, ◌++◌, length, take, drop, get_or, codes, refl, sym, ap, subst, ◌∙◌, inl, inr, arith, one-add, append-nil, append_assoc}
use Rattle.std.proofs.lemmas.Bool.{eqb-true, eqb-false, ne_eqb, ltb-true, ltb-false, lt-ltb, cases_eq, and_from, and_right, and_parts, or_cases}
use Rattle.std.proofs.lemmas.List.{take-append-drop}
use Rattle.std.specs.Char.{is_ascii_digit}
use Rattle.std.specs.List.{list_all, prefix_len}
use Rattle.std.specs.Option.{option_map}
use Rattle.std.specs.Prelude.{Option, Some, None, option_and_then}
use Rattle.std.specs.Str.{trim}
use Rattle.std.specs.Str.Parse.{digits_value, starts_with_minus, without_leading_sign}
use Rattle.kube_types.specs.Quantity.Decimal.{Decimal, SameNumber, with_sign}
use Rattle.kube_types.specs.Quantity.Normal.{IsNormal, normal_form, fits, quantity_holding}
use Rattle.kube_types.specs.Quantity.NormalLaws.{normal_unique}
use Rattle.kube_types.specs.Quantity.OrderLaws.{tied_same, same_tied}
use Rattle.kube_types.specs.Quantity.Reading.{leading_digits, after_digits, has_point, after_point, fraction_digits, suffix_of, power_of_ten, whole_factor, decimal_suffix, binary_suffix, exponent_of, factor_of, value_of, unsigned_quantity, quantity_of}
use Rattle.kube_types.specs.Quantity.Scales.{decimal_cmp_total}
use Rattle.kube_types.specs.Quantity.Sums.{decimal_at}
use Rattle.kube_types.specs.Quantity.Texts.{AreDigits, IsSign, IsNumber, suffixes, IsRow, IsExponent, IsSuffix, IsQuantityText}
use Rattle.kube_types.specs.declared.quantities.reading.Factor.{Factor}
use Rattle.kube_types.proofs.Quantity.Forms.{normal_form-normal, normal_form-same}

-- ---- results that aren't none

same_some : {A : Type 0} (x y : A) → ◌≡◌ {A = Option A} (Some x) (Some y) → x ≡ y
same_some x y e = cc

none_facts : {A : Type 0} (b : Bool) (o : Option A) (x : A) → cond b None o ≡ Some x → (b ≡ false) × (o ≡ Some x)
none_facts true o x h = absurd (cc)
none_facts false o x h = (refl, h)

some_facts : {A : Type 0} (b : Bool) (o : Option A) (x : A) → cond b o None ≡ Some x → (b ≡ true) × (o ≡ Some x)
some_facts true o x h = (refl, h)
some_facts false o x h = absurd (cc)

mapped_facts : {A B : Type 0} (f : A → B) (o : Option A) (y : B) → option_map f o ≡ Some y → (x : A) × (o ≡ Some x) × (f x ≡ y)
mapped_facts f None y h = absurd (cc)
mapped_facts f (Some x) y h = (x, refl, same_some (f x) y h)

then_facts : {A B : Type 0} (f : A → Option B) (o : Option A) (y : B) → option_and_then f o ≡ Some y → (x : A) × (o ≡ Some x) × (f x ≡ Some y)
then_facts f None y h = absurd (cc)
then_facts f (Some x) y h = (x, refl, h)

factor_facts : (a b c d : Bool) (p q r s : Option Factor) (f : Factor) → cond a p (cond b q (cond c r (cond d s None))) ≡ Some f
    → ((a ≡ true) × (p ≡ Some f)) ⊎ (((b ≡ true) × (q ≡ Some f)) ⊎ (((c ≡ true) × (r ≡ Some f)) ⊎ ((a ≡ false) × (d ≡ true) × (s ≡ Some f))))
factor_facts true b c d p q r s f h = inl (refl, h)
factor_facts false true c d p q r s f h = inr (inl (refl, h))
factor_facts false false true d p q r s f h = inr (inr (inl (refl, h)))
factor_facts false false false true p q r s f h = inr (inr (inr (refl, refl, h)))
factor_facts false false false false p q r s f h = absurd (cc)

exponent_facts : (a b c : Bool) (v z : ℤ) → cond (a || b) None (cond c (Some v) None) ≡ Some z → (a ≡ false) × (b ≡ false) × (c ≡ true) × (v ≡ z)
exponent_facts true b c v z h = absurd (cc)
exponent_facts false true c v z h = absurd (cc)
exponent_facts false false true v z h = (refl, refl, refl, same_some v z h)
exponent_facts false false false v z h = absurd (cc)

-- ---- lists by their lengths

no_bytes : (xs : List ℕ) → length xs ≡ 0 → xs ≡ []
no_bytes [] h = refl
no_bytes (x ∷ xs) h = absurd (omega arith)

one_byte : (xs : List ℕ) → length xs ≡ 1 → xs ≡ get_or xs 0 0 ∷ []
one_byte [] h = absurd (omega arith)
one_byte (x ∷ []) h = refl
one_byte (x ∷ y ∷ xs) h = absurd (omega arith)

two_bytes : (xs : List ℕ) → length xs ≡ 2 → xs ≡ get_or xs 0 0 ∷ get_or xs 1 0 ∷ []
two_bytes [] h = absurd (omega arith)
two_bytes (x ∷ []) h = absurd (omega arith)
two_bytes (x ∷ y ∷ []) h = refl
two_bytes (x ∷ y ∷ z ∷ xs) h = absurd (omega arith)

some_bytes : (xs : List ℕ) → (length xs ≡ 0 → ⊥) → xs ≡ get_or xs 0 0 ∷ drop 1 xs
some_bytes [] h = absurd (h refl)
some_bytes (x ∷ xs) h = refl

first_byte : (xs : List ℕ) (c : ℕ) → 0 < c → get_or xs 0 0 ≡ c → xs ≡ c ∷ drop 1 xs
first_byte [] c some h = absurd (let none : 0 ≡ c = h in omega arith)
first_byte (x ∷ xs) c some h = ap (λ y. y ∷ xs) h

-- ---- splitting a text

lead_from : (c : ℕ) (rest : List ℕ) (b : Bool) → is_ascii_digit c ≡ b → AreDigits (take (prefix_len is_ascii_digit rest) rest) → AreDigits (take (cond b (1 + prefix_len is_ascii_digit rest) 0) (c ∷ rest))
lead_from c rest true h all =
    let one : suc (prefix_len is_ascii_digit rest) ≡ 1 + prefix_len is_ascii_digit rest = omega arith in
    let P : ℕ → Type 0 = λ k. AreDigits (take k (c ∷ rest)) in
    let start : P (suc (prefix_len is_ascii_digit rest)) = and_from (is_ascii_digit c) (list_all is_ascii_digit (take (prefix_len is_ascii_digit rest) rest)) h all in
    subst P one start
lead_from c rest false h all = refl

lead_digits : (text : List ℕ) → AreDigits (leading_digits text)
lead_digits [] = refl
lead_digits (c ∷ rest) = lead_from c rest (is_ascii_digit c) refl (lead_digits rest)

either_digits : (b : Bool) (text : List ℕ) → AreDigits (cond b (leading_digits text) [])
either_digits true text = lead_digits text
either_digits false text = refl

lead_joined : (text : List ℕ) → leading_digits text ++ after_digits text ≡ text
lead_joined text = take-append-drop (prefix_len is_ascii_digit text) text

-- a sign and the rest
record Signed (text rest : List ℕ) (negative : Bool) : Type 0 where
  sign : List ℕ
  spelled : text ≡ sign ++ rest
  sign_text : IsSign sign negative

signed_by : (text : List ℕ) (b d : Bool) → (eqb (get_or text 0 0) 45) ≡ b → (eqb (get_or text 0 0) 43) ≡ d → Signed text (cond b (drop 1 text) (drop (cond d 1 0) text)) b
signed_by text true d e f = record { sign = 45 ∷ []; spelled = first_byte text 45 (omega arith) (eqb-true (get_or text 0 0) 45 e); sign_text = inr (inr (refl, refl)) }
signed_by text false true e f = record { sign = 43 ∷ []; spelled = first_byte text 43 (omega arith) (eqb-true (get_or text 0 0) 43 f); sign_text = inr (inl (refl, refl)) }
signed_by text false false e f = record { sign = []; spelled = refl; sign_text = inl (refl, refl) }

signed_of : (text : List ℕ) → Signed text (without_leading_sign text) (starts_with_minus text)
signed_of text = signed_by text (eqb (get_or text 0 0) 45) (eqb (get_or text 0 0) 43) refl refl

-- digits with an optional point, and the rest
record Cut (text whole fraction suffix : List ℕ) : Type 0 where
  number : List ℕ
  spelled : text ≡ number ++ suffix
  number_is : ((number ≡ whole) × (fraction ≡ [])) ⊎ (number ≡ whole ++ (46 ∷ fraction))

cut_by : (text : List ℕ) (b : Bool) → has_point text ≡ b → Cut text (leading_digits text) (cond b (leading_digits (after_point text)) []) (cond b (after_digits (after_point text)) (after_digits text))
cut_by text true e =
    let whole = leading_digits text in
    let fraction = leading_digits (after_point text) in
    let rest = after_digits (after_point text) in
    let point : after_digits text ≡ 46 ∷ after_point text = first_byte (after_digits text) 46 (omega arith) (eqb-true (get_or (after_digits text) 0 0) 46 e) in
    record {
      number = whole ++ (46 ∷ fraction);
      spelled = sym (lead_joined text) ∙ ap (λ t. whole ++ t) (point ∙ ap (λ t. 46 ∷ t) (sym (lead_joined (after_point text)))) ∙ sym (append_assoc whole (46 ∷ fraction) rest);
      number_is = inr refl;
    }
cut_by text false e = record { number = leading_digits text; spelled = sym (lead_joined text); number_is = inl (refl, refl) }

cut_of : (text : List ℕ) → Cut text (leading_digits text) (fraction_digits text) (suffix_of text)
unfolding fraction_digits suffix_of
cut_of text = cut_by text (has_point text) refl

fraction_is_digits : (text : List ℕ) → AreDigits (fraction_digits text)
unfolding fraction_digits
fraction_is_digits text = either_digits (has_point text) (after_point text)

-- ---- suffixes

row_of : (c k : ℕ) (z v : ℤ) → c ≡ k → decimal_suffix k ≡ Some v → decimal_suffix c ≡ Some z → IsRow suffixes (k ∷ []) (power_of_ten v) → IsRow suffixes (c ∷ []) (power_of_ten z)
row_of c k z v e there here row =
    let same : v ≡ z = same_some v z (sym there ∙ ap decimal_suffix (sym e) ∙ here) in
    subst (λ x. IsRow suffixes (x ∷ []) (power_of_ten z)) (sym e) (subst (λ w. IsRow suffixes (k ∷ []) (power_of_ten w)) same row)

no_row : {A : Type 0} (o : Option ℤ) (z : ℤ) → o ≡ None → o ≡ Some z → A
no_row o z h k = absurd (cc)

decimal-sound : (c : ℕ) (z : ℤ) → decimal_suffix c ≡ Some z → IsRow suffixes (c ∷ []) (power_of_ten z)
unfolding decimal_suffix
decimal-sound c z h = elim (cases_eq c 110) as (λ _. IsRow suffixes (c ∷ []) (power_of_ten z)) [
  | inl e ↦ row_of c 110 z (negsuc 8) e refl h (inr (inl (refl, refl)))
  | inr n ↦ elim (cases_eq c 117) as (λ _. IsRow suffixes (c ∷ []) (power_of_ten z)) [
    | inl e ↦ row_of c 117 z (negsuc 5) e refl h (inr (inr (inl (refl, refl))))
    | inr u ↦ elim (cases_eq c 109) as (λ _. IsRow suffixes (c ∷ []) (power_of_ten z)) [
      | inl e ↦ row_of c 109 z (negsuc 2) e refl h (inr (inr (inr (inl (refl, refl)))))
      | inr m ↦ elim (cases_eq c 107) as (λ _. IsRow suffixes (c ∷ []) (power_of_ten z)) [
        | inl e ↦ row_of c 107 z (pos 3) e refl h (inr (inr (inr (inr (inl (refl, refl))))))
        | inr k ↦ elim (cases_eq c 77) as (λ _. IsRow suffixes (c ∷ []) (power_of_ten z)) [
          | inl e ↦ row_of c 77 z (pos 6) e refl h (inr (inr (inr (inr (inr (inl (refl, refl)))))))
          | inr mega ↦ elim (cases_eq c 71) as (λ _. IsRow suffixes (c ∷ []) (power_of_ten z)) [
            | inl e ↦ row_of c 71 z (pos 9) e refl h (inr (inr (inr (inr (inr (inr (inl (refl, refl))))))))
            | inr g ↦ elim (cases_eq c 84) as (λ _. IsRow suffixes (c ∷ []) (power_of_ten z)) [
              | inl e ↦ row_of c 84 z (pos 12) e refl h (inr (inr (inr (inr (inr (inr (inr (inl (refl, refl)))))))))
              | inr t ↦ elim (cases_eq c 80) as (λ _. IsRow suffixes (c ∷ []) (power_of_ten z)) [
                | inl e ↦ row_of c 80 z (pos 15) e refl h (inr (inr (inr (inr (inr (inr (inr (inr (inl (refl, refl))))))))))
                | inr p ↦ elim (cases_eq c 69) as (λ _. IsRow suffixes (c ∷ []) (power_of_ten z)) [
                  | inl e ↦ row_of c 69 z (pos 18) e refl h (inr (inr (inr (inr (inr (inr (inr (inr (inr (inl (refl, refl)))))))))))
                  | inr x ↦ no_row (decimal_suffix c) z (rw (ne_eqb c 110 n, ne_eqb c 117 u, ne_eqb c 109 m, ne_eqb c 107 k, ne_eqb c 77 mega, ne_eqb c 71 g, ne_eqb c 84 t, ne_eqb c 80 p, ne_eqb c 69 x) refl) h
                ]
              ]
            ]
          ]
        ]
      ]
    ]
  ]
]

binary_row : (c k n v : ℕ) → c ≡ k → binary_suffix k ≡ Some v → binary_suffix c ≡ Some n → IsRow suffixes (k ∷ 105 ∷ []) (whole_factor v) → IsRow suffixes (c ∷ 105 ∷ []) (whole_factor n)
binary_row c k n v e there here row =
    let same : v ≡ n = same_some v n (sym there ∙ ap binary_suffix (sym e) ∙ here) in
    subst (λ x. IsRow suffixes (x ∷ 105 ∷ []) (whole_factor n)) (sym e) (subst (λ w. IsRow suffixes (k ∷ 105 ∷ []) (whole_factor w)) same row)

no_binary : {A : Type 0} (o : Option ℕ) (n : ℕ) → o ≡ None → o ≡ Some n → A
no_binary o n h k = absurd (cc)

-- the rows of the binary suffixes follow ten rows of decimal ones
after_ten : (text : List ℕ) (f : Factor) → IsRow (drop 10 suffixes) text f → IsRow suffixes text f
after_ten text f r = inr (inr (inr (inr (inr (inr (inr (inr (inr (inr r)))))))))

binary-sound : (c n : ℕ) → binary_suffix c ≡ Some n → IsRow suffixes (c ∷ 105 ∷ []) (whole_factor n)
unfolding binary_suffix
binary-sound c n h = elim (cases_eq c 75) as (λ _. IsRow suffixes (c ∷ 105 ∷ []) (whole_factor n)) [
  | inl e ↦ binary_row c 75 n (2 ^ 10) e refl h (after_ten _ _ (inl (refl, refl)))
  | inr k ↦ elim (cases_eq c 77) as (λ _. IsRow suffixes (c ∷ 105 ∷ []) (whole_factor n)) [
    | inl e ↦ binary_row c 77 n (2 ^ 20) e refl h (after_ten _ _ (inr (inl (refl, refl))))
    | inr m ↦ elim (cases_eq c 71) as (λ _. IsRow suffixes (c ∷ 105 ∷ []) (whole_factor n)) [
      | inl e ↦ binary_row c 71 n (2 ^ 30) e refl h (after_ten _ _ (inr (inr (inl (refl, refl)))))
      | inr g ↦ elim (cases_eq c 84) as (λ _. IsRow suffixes (c ∷ 105 ∷ []) (whole_factor n)) [
        | inl e ↦ binary_row c 84 n (2 ^ 40) e refl h (after_ten _ _ (inr (inr (inr (inl (refl, refl))))))
        | inr t ↦ elim (cases_eq c 80) as (λ _. IsRow suffixes (c ∷ 105 ∷ []) (whole_factor n)) [
          | inl e ↦ binary_row c 80 n (2 ^ 50) e refl h (after_ten _ _ (inr (inr (inr (inr (inl (refl, refl)))))))
          | inr p ↦ elim (cases_eq c 69) as (λ _. IsRow suffixes (c ∷ 105 ∷ []) (whole_factor n)) [
            | inl e ↦ binary_row c 69 n (2 ^ 60) e refl h (after_ten _ _ (inr (inr (inr (inr (inr (inl (refl, refl))))))))
            | inr x ↦ no_binary (binary_suffix c) n (rw (ne_eqb c 75 k, ne_eqb c 77 m, ne_eqb c 71 g, ne_eqb c 84 t, ne_eqb c 80 p, ne_eqb c 69 x) refl) h
          ]
        ]
      ]
    ]
  ]
]

letter_of : (c : ℕ) → (eqb c 101 || eqb c 69) ≡ true → ((c ∷ [] ≡ codes "e") ⊎ (c ∷ [] ≡ codes "E"))
letter_of c h = elim (or_cases (eqb c 101) (eqb c 69) h) as (λ _. (c ∷ [] ≡ codes "e") ⊎ (c ∷ [] ≡ codes "E")) [
  | inl e ↦ inl (ap (λ b. b ∷ []) (eqb-true c 101 e))
  | inr e ↦ inr (ap (λ b. b ∷ []) (eqb-true c 69 e))
]

exponent-sound : (c : ℕ) (text : List ℕ) (z : ℤ) → (eqb c 101 || eqb c 69) ≡ true → exponent_of text ≡ Some z → IsExponent (c ∷ text) z
unfolding exponent_of
exponent-sound c text z l h =
    let rest = without_leading_sign text in
    let digits = leading_digits rest in
    let value = with_sign (starts_with_minus text) (digits_value 10 digits) in
    let f = exponent_facts (eqb (length digits) 0) (ltb 0 (length (after_digits rest))) (fits 31 value) value z h in
    let none : after_digits rest ≡ [] = no_bytes (after_digits rest) (omega (arith, ltb-false 0 (length (after_digits rest)) f.1)) in
    let all : rest ≡ digits = sym (lead_joined rest) ∙ ap (λ t. digits ++ t) none ∙ append-nil digits in
    let s = signed_of text in
    record {
      letter = c ∷ [];
      sign = s.sign;
      negative = starts_with_minus text;
      digits = digits;
      spelled = ap (λ t. c ∷ t) (s.spelled ∙ ap (λ t. s.sign ++ t) all);
      letter_text = letter_of c l;
      sign_text = s.sign_text;
      digits_text = lead_digits rest;
      some_digit = omega (arith, eqb-false (length digits) 0 f.0);
      value = f.3;
      within = subst (λ v. fits 31 v ≡ true) f.3 f.2;
    }

factor-sound : (text : List ℕ) (f : Factor) → factor_of text ≡ Some f → IsSuffix text f
unfolding factor_of
factor-sound text f h = elim (factor_facts (eqb (length text) 0) (eqb (length text) 1) (eqb (length text) 2 && eqb (get_or text 1 0) 105)
    (eqb (get_or text 0 0) 101 || eqb (get_or text 0 0) 69) (Some (power_of_ten (pos 0))) (option_map power_of_ten (decimal_suffix (get_or text 0 0)))
    (option_map whole_factor (binary_suffix (get_or text 0 0))) (option_map power_of_ten (exponent_of (drop 1 text))) f h) as (λ _. IsSuffix text f) [
      | inl none ↦ inl (inl (no_bytes text (eqb-true (length text) 0 none.0), sym (same_some (power_of_ten (pos 0)) f none.1)))
      | inr others ↦ elim others as (λ _. IsSuffix text f) [
        | inl one ↦
            let m = mapped_facts power_of_ten (decimal_suffix (get_or text 0 0)) f one.1 in
            let row = decimal-sound (get_or text 0 0) m.0 m.1 in
            inl (subst (λ t. IsRow suffixes t f) (sym (one_byte text (eqb-true (length text) 1 one.0))) (subst (λ g. IsRow suffixes (get_or text 0 0 ∷ []) g) m.2 row))
        | inr more ↦ elim more as (λ _. IsSuffix text f) [
          | inl two ↦
              let parts = and_parts (eqb (length text) 2) (eqb (get_or text 1 0) 105) two.0 in
              let m = mapped_facts whole_factor (binary_suffix (get_or text 0 0)) f two.1 in
              let row = binary-sound (get_or text 0 0) m.0 m.1 in
              let shape : text ≡ get_or text 0 0 ∷ 105 ∷ [] = two_bytes text (eqb-true (length text) 2 parts.0) ∙ ap (λ b. get_or text 0 0 ∷ b ∷ []) (eqb-true (get_or text 1 0) 105 parts.1) in
              inl (subst (λ t. IsRow suffixes t f) (sym shape) (subst (λ g. IsRow suffixes (get_or text 0 0 ∷ 105 ∷ []) g) m.2 row))
          | inr tens ↦
              let m = mapped_facts power_of_ten (exponent_of (drop 1 text)) f tens.2 in
              let e = exponent-sound (get_or text 0 0) (drop 1 text) m.0 tens.1 m.1 in
              let shape = some_bytes text (eqb-false (length text) 0 tens.0) in
              inr (m.0, subst (λ t. IsExponent t m.0) (sym shape) e, m.2)
        ]
      ]
    ]

-- ---- numbers

holding-sound : (d x : Decimal) → quantity_holding d ≡ Some x → (normal_form d ≡ x) × (fits 31 (normal_form d).scale ≡ true)
unfolding quantity_holding
holding-sound d x h =
    let f = some_facts (fits 31 (normal_form d).scale) (Some (normal_form d)) x h in
    (same_some (normal_form d) x f.1, f.0)

value-sound : (negative : Bool) (digits : List ℕ) (places : ℕ) (factor : Factor) (x : Decimal) → value_of negative digits places factor ≡ Some x
    → (digits_value 10 digits * factor.times < 2 ^ 127) × (quantity_holding (decimal_at (with_sign negative (digits_value 10 digits * factor.times)) (factor.tens -ℤ pos places)) ≡ Some x)
unfolding value_of
value-sound negative digits places factor x h =
    let f = some_facts (ltb (digits_value 10 digits * factor.times) (2 ^ 127)) (quantity_holding (decimal_at (with_sign negative (digits_value 10 digits * factor.times)) (factor.tens -ℤ pos places))) x h in
    (ltb-true (digits_value 10 digits * factor.times) (2 ^ 127) f.0, f.1)

unsigned-sound : (negative : Bool) (text : List ℕ) (x : Decimal) → unsigned_quantity negative text ≡ Some x
    → (0 < length (leading_digits text) + length (fraction_digits text))
    × ((f : Factor) × (factor_of (suffix_of text) ≡ Some f) × (value_of negative (leading_digits text ++ fraction_digits text) (length (fraction_digits text)) f ≡ Some x))
unfolding unsigned_quantity
unsigned-sound negative text x h =
    let value = value_of negative (leading_digits text ++ fraction_digits text) (length (fraction_digits text)) in
    let f = none_facts (eqb (length (leading_digits text) + length (fraction_digits text)) 0) (option_and_then value (factor_of (suffix_of text))) x h in
    let none = eqb-false (length (leading_digits text) + length (fraction_digits text)) 0 f.0 in
    (omega (arith, none), then_facts value (factor_of (suffix_of text)) x f.1)

by_sign : (text : List ℕ) → quantity_of text ≡ unsigned_quantity (starts_with_minus (trim text)) (without_leading_sign (trim text))
unfolding quantity_of
by_sign text = refl

quantity-sound : (text : List ℕ) (x : Decimal) → quantity_of text ≡ Some x → IsQuantityText text x
quantity-sound text x h =
    let negative = starts_with_minus (trim text) in
    let rest = without_leading_sign (trim text) in
    let u = unsigned-sound negative rest x (sym (by_sign text) ∙ h) in
    let factor = u.1.0 in
    let v = value-sound negative (leading_digits rest ++ fraction_digits rest) (length (fraction_digits rest)) factor x u.1.2 in
    let d = decimal_at (with_sign negative (digits_value 10 (leading_digits rest ++ fraction_digits rest) * factor.times)) (factor.tens -ℤ pos (length (fraction_digits rest))) in
    let held = holding-sound d x v.1 in
    let s = signed_of (trim text) in
    let cut = cut_of rest in
    record {
      sign = s.sign;
      negative = negative;
      number = cut.number;
      whole = leading_digits rest;
      fraction = fraction_digits rest;
      suffix = suffix_of rest;
      factor = factor;
      spelled = s.spelled ∙ ap (λ t. s.sign ++ t) cut.spelled;
      sign_text = s.sign_text;
      number_text = (lead_digits rest, fraction_is_digits rest, u.0, cut.number_is);
      suffix_text = factor-sound (suffix_of rest) factor u.1.1;
      size_within = v.0;
      normal = subst IsNormal held.0 (normal_form-normal d);
      value = subst (λ y. SameNumber y d) held.0 (normal_form-same d);
      scale_within = subst (λ (y : Decimal). fits 31 y.scale ≡ true) held.0 held.1;
    }

-- ---- the converse: splitting a spelled text

front_taken : (front back : List ℕ) → take (length front) (front ++ back) ≡ front
front_taken [] back = refl
front_taken (x ∷ xs) back = ap (λ t. x ∷ t) (front_taken xs back)

front_dropped : (front back : List ℕ) → drop (length front) (front ++ back) ≡ back
front_dropped [] back = refl
front_dropped (x ∷ xs) back = front_dropped xs back

no_lead : (text : List ℕ) → is_ascii_digit (get_or text 0 0) ≡ false → prefix_len is_ascii_digit text ≡ 0
no_lead [] h = refl
no_lead (c ∷ rest) h = ap (λ b. cond b (1 + prefix_len is_ascii_digit rest) 0) h

lead_length : (ds more : List ℕ) → AreDigits ds → is_ascii_digit (get_or more 0 0) ≡ false → prefix_len is_ascii_digit (ds ++ more) ≡ length ds
lead_length [] more all h = no_lead more h
lead_length (d ∷ ds) more all h =
    let parts = and_parts (is_ascii_digit d) (list_all is_ascii_digit ds) all in
    ap (λ b. cond b (1 + prefix_len is_ascii_digit (ds ++ more)) 0) parts.0 ∙ ap (λ n. 1 + n) (lead_length ds more parts.1 h) ∙ one-add (length ds)

leading_is : (ds more : List ℕ) → AreDigits ds → is_ascii_digit (get_or more 0 0) ≡ false → leading_digits (ds ++ more) ≡ ds
leading_is ds more all h = ap (λ n. take n (ds ++ more)) (lead_length ds more all h) ∙ front_taken ds more

after_is : (ds more : List ℕ) → AreDigits ds → is_ascii_digit (get_or more 0 0) ≡ false → after_digits (ds ++ more) ≡ more
after_is ds more all h = ap (λ n. drop n (ds ++ more)) (lead_length ds more all h) ∙ front_dropped ds more

record Parts (text whole fraction suffix : List ℕ) : Type 0 where
  lead : leading_digits text ≡ whole
  places : fraction_digits text ≡ fraction
  last : suffix_of text ≡ suffix

parts_plain : (whole suffix : List ℕ) → AreDigits whole → is_ascii_digit (get_or suffix 0 0) ≡ false → eqb (get_or suffix 0 0) 46 ≡ false → Parts (whole ++ suffix) whole [] suffix
unfolding fraction_digits suffix_of
parts_plain whole suffix all h none =
    let text = whole ++ suffix in
    let after = after_is whole suffix all h in
    let point : has_point text ≡ false = ap (λ t. eqb (get_or t 0 0) 46) after ∙ none in
    record {
      lead = leading_is whole suffix all h;
      places = ap (λ b. cond b (leading_digits (after_point text)) []) point;
      last = ap (λ b. cond b (after_digits (after_point text)) (after_digits text)) point ∙ after;
    }

parts_pointed : (whole fraction suffix : List ℕ) → AreDigits whole → AreDigits fraction → is_ascii_digit (get_or suffix 0 0) ≡ false
    → Parts (whole ++ (46 ∷ (fraction ++ suffix))) whole fraction suffix
unfolding fraction_digits suffix_of
parts_pointed whole fraction suffix all more h =
    let text = whole ++ (46 ∷ (fraction ++ suffix)) in
    let after = after_is whole (46 ∷ (fraction ++ suffix)) all refl in
    let point : has_point text ≡ true = ap (λ t. eqb (get_or t 0 0) 46) after in
    let rest : after_point text ≡ fraction ++ suffix = ap (λ t. drop 1 t) after in
    record {
      lead = leading_is whole (46 ∷ (fraction ++ suffix)) all refl;
      places = ap (λ b. cond b (leading_digits (after_point text)) []) point ∙ ap leading_digits rest ∙ leading_is fraction suffix more h;
      last = ap (λ b. cond b (after_digits (after_point text)) (after_digits text)) point ∙ ap after_digits rest ∙ after_is fraction suffix more h;
    }

parts_of : (number whole fraction suffix : List ℕ) → IsNumber number whole fraction → is_ascii_digit (get_or suffix 0 0) ≡ false → eqb (get_or suffix 0 0) 46 ≡ false
    → Parts (number ++ suffix) whole fraction suffix
parts_of number whole fraction suffix n h none = elim n.3 as (λ _. Parts (number ++ suffix) whole fraction suffix) [
  | inl plain ↦
      subst (λ f. Parts (number ++ suffix) whole f suffix) (sym plain.1) (subst (λ t. Parts (t ++ suffix) whole [] suffix) (sym plain.0) (parts_plain whole suffix n.0 h none))
  | inr pointed ↦
      let shape : number ++ suffix ≡ whole ++ (46 ∷ (fraction ++ suffix)) = ap (λ t. t ++ suffix) pointed ∙ append_assoc whole (46 ∷ fraction) suffix in
      subst (λ t. Parts t whole fraction suffix) (sym shape) (parts_pointed whole fraction suffix n.0 n.1 h)
]

-- ---- signs

-- the text starts with no sign
record Unsigned (text : List ℕ) : Type 0 where
  no_minus : eqb (get_or text 0 0) 45 ≡ false
  no_plus : eqb (get_or text 0 0) 43 ≡ false

digit_not : (b c : ℕ) → is_ascii_digit b ≡ true → is_ascii_digit c ≡ false → eqb b c ≡ false
digit_not b c d e = ne_eqb b c (λ same. cc (d, e, ap is_ascii_digit same))

unsigned_digits : (ds more : List ℕ) → AreDigits ds → 0 < length ds → Unsigned (ds ++ more)
unsigned_digits [] more all some = absurd (omega arith)
unsigned_digits (d ∷ ds) more all some =
    let one = (and_parts (is_ascii_digit d) (list_all is_ascii_digit ds) all).0 in
    record { no_minus = digit_not d 45 one refl; no_plus = digit_not d 43 one refl }

unsigned_pointed : (ds more : List ℕ) → AreDigits ds → Unsigned (ds ++ (46 ∷ more))
unsigned_pointed [] more all = record { no_minus = refl; no_plus = refl }
unsigned_pointed (d ∷ ds) more all = unsigned_digits (d ∷ ds) (46 ∷ more) all (omega arith)

unsigned_number : (number whole fraction suffix : List ℕ) → IsNumber number whole fraction → Unsigned (number ++ suffix)
unsigned_number number whole fraction suffix n = elim n.3 as (λ _. Unsigned (number ++ suffix)) [
  | inl plain ↦
      let some : 0 < length whole = let none = ap length plain.1 in omega (arith, n.2, none) in
      subst (λ t. Unsigned (t ++ suffix)) (sym plain.0) (unsigned_digits whole suffix n.0 some)
  | inr pointed ↦
      let shape : number ++ suffix ≡ whole ++ (46 ∷ (fraction ++ suffix)) = ap (λ t. t ++ suffix) pointed ∙ append_assoc whole (46 ∷ fraction) suffix in
      subst Unsigned (sym shape) (unsigned_pointed whole (fraction ++ suffix) n.0)
]

-- a sign is read as it is spelled
abbrev ReadsSign : List ℕ → List ℕ → Bool → Type 0
ReadsSign rest sign negative = (starts_with_minus (sign ++ rest) ≡ negative) × (without_leading_sign (sign ++ rest) ≡ rest)

reads_at : (rest sign known : List ℕ) (negative is : Bool) → sign ≡ known → negative ≡ is → ReadsSign rest known is → ReadsSign rest sign negative
reads_at rest sign known negative is e f r = subst (λ s. ReadsSign rest s negative) (sym e) (subst (λ b. ReadsSign rest known b) (sym f) r)

reads_none : (rest : List ℕ) → Unsigned rest → ReadsSign rest [] false
reads_none rest u = (
  u.no_minus,
  ap (λ b. cond b (drop 1 rest) (drop (cond (eqb (get_or rest 0 0) 43) 1 0) rest)) u.no_minus ∙ ap (λ b. drop (cond b 1 0) rest) u.no_plus,
)

reads_sign : (sign rest : List ℕ) (negative : Bool) → IsSign sign negative → Unsigned rest → ReadsSign rest sign negative
reads_sign sign rest negative (inl none) u = reads_at rest sign [] negative false none.0 none.1 (reads_none rest u)
reads_sign sign rest negative (inr (inl plus)) u = reads_at rest sign (43 ∷ []) negative false plus.0 plus.1 (refl, refl)
reads_sign sign rest negative (inr (inr minus)) u = reads_at rest sign (45 ∷ []) negative true minus.0 minus.1 (refl, refl)

-- ---- suffixes

abbrev AllRows : (List ℕ → Factor → Type 0) → List (List ℕ × Factor) → Type 0
AllRows P [] = Unit {0}
AllRows P (row ∷ rows) = P row.0 row.1 × AllRows P rows

row_has : (P : List ℕ → Factor → Type 0) (rows : List (List ℕ × Factor)) (text : List ℕ) (f : Factor) → AllRows P rows → IsRow rows text f → P text f
row_has P [] text f all h = absurd h
row_has P (row ∷ rows) text f all (inl e) = subst (λ t. P t f) (sym e.0) (subst (P row.0) (sym e.1) all.0)
row_has P (row ∷ rows) text f all (inr h) = row_has P rows text f all.1 h

abbrev IsRead : List ℕ → Factor → Type 0
IsRead text f = factor_of text ≡ Some f

rows_are_read : AllRows IsRead suffixes
unfolding factor_of decimal_suffix binary_suffix
rows_are_read = (refl, (refl, (refl, (refl, (refl, (refl, (refl, (refl, (refl, (refl, (refl, (refl, (refl, (refl, (refl, (refl, tt))))))))))))))))

abbrev Follows : List ℕ → Factor → Type 0
Follows text f = (is_ascii_digit (get_or text 0 0) ≡ false) × (eqb (get_or text 0 0) 46 ≡ false)

rows_follow : AllRows Follows suffixes
rows_follow = ((refl, refl), ((refl, refl), ((refl, refl), ((refl, refl), ((refl, refl), ((refl, refl), ((refl, refl), ((refl, refl), ((refl, refl), ((refl, refl), ((refl, refl), ((refl, refl), ((refl, refl), ((refl, refl), ((refl, refl), ((refl, refl), tt))))))))))))))))

exponent_follows : (text : List ℕ) (z : ℤ) (f : Factor) → IsExponent text z → Follows text f
exponent_follows text z f e = elim e.letter_text as (λ _. Follows text f) [
  | inl small ↦ subst (λ t. Follows t f) (sym (e.spelled ∙ ap (λ l. l ++ (e.sign ++ e.digits)) small)) (refl, refl)
  | inr capital ↦ subst (λ t. Follows t f) (sym (e.spelled ∙ ap (λ l. l ++ (e.sign ++ e.digits)) capital)) (refl, refl)
]

suffix_follows : (text : List ℕ) (f : Factor) → IsSuffix text f → Follows text f
suffix_follows text f (inl row) = row_has Follows suffixes text f rows_follow row
suffix_follows text f (inr e) = exponent_follows text e.0 f e.1

-- the exponent made of its sign, its digits and the text after them
abbrev exponent_from : Bool → List ℕ → List ℕ → Option ℤ
exponent_from negative digits rest = cond (eqb (length digits) 0 || ltb 0 (length rest)) None (cond (fits 31 (with_sign negative (digits_value 10 digits))) (Some (with_sign negative (digits_value 10 digits))) None)

exponent_by : (text : List ℕ) → exponent_of text ≡ exponent_from (starts_with_minus text) (leading_digits (without_leading_sign text)) (after_digits (without_leading_sign text))
unfolding exponent_of
exponent_by text = refl

exponent_read : (negative : Bool) (digits : List ℕ) (z : ℤ) → 0 < length digits → with_sign negative (digits_value 10 digits) ≡ z → fits 31 z ≡ true → exponent_from negative digits [] ≡ Some z
exponent_read negative digits z some value within =
    let d : eqb (length digits) 0 ≡ false = ne_eqb (length digits) 0 (λ h. omega arith) in
    ap (λ b. cond (b || false) None (cond (fits 31 (with_sign negative (digits_value 10 digits))) (Some (with_sign negative (digits_value 10 digits))) None)) d
    ∙ ap (λ v. cond (fits 31 v) (Some v) None) value ∙ ap (λ b. cond b (Some z) None) within

exponent-complete : (sign digits : List ℕ) (negative : Bool) (z : ℤ) → IsSign sign negative → AreDigits digits → 0 < length digits
    → with_sign negative (digits_value 10 digits) ≡ z → fits 31 z ≡ true → exponent_of (sign ++ digits) ≡ Some z
exponent-complete sign digits negative z s all some value within =
    let text = sign ++ digits in
    let u : Unsigned digits = subst Unsigned (append-nil digits) (unsigned_digits digits [] all some) in
    let r = reads_sign sign digits negative s u in
    let lead : leading_digits digits ≡ digits = ap leading_digits (sym (append-nil digits)) ∙ leading_is digits [] all refl in
    let after : after_digits digits ≡ [] = ap after_digits (sym (append-nil digits)) ∙ after_is digits [] all refl in
    exponent_by text
    ∙ ap (λ n. exponent_from n (leading_digits (without_leading_sign text)) (after_digits (without_leading_sign text))) r.0
    ∙ ap (λ t. exponent_from negative (leading_digits t) (after_digits t)) r.1
    ∙ ap (λ d. exponent_from negative d (after_digits digits)) lead
    ∙ ap (λ d. exponent_from negative digits d) after
    ∙ exponent_read negative digits z some value within

-- the factor, from three tests and the result in each case
factor_by_letter : (c : ℕ) (text : List ℕ) (z : ℤ) → 0 < length text → eqb (get_or text 0 0) 105 ≡ false → (eqb c 101 || eqb c 69) ≡ true → exponent_of text ≡ Some z
    → factor_of (c ∷ text) ≡ Some (power_of_ten z)
unfolding factor_of
factor_by_letter c text z some other letter e =
    let none : eqb (length (c ∷ text)) 0 ≡ false = ne_eqb (length (c ∷ text)) 0 (λ h. omega arith) in
    let one : eqb (length (c ∷ text)) 1 ≡ false = ne_eqb (length (c ∷ text)) 1 (λ h. omega arith) in
    let two : (eqb (length (c ∷ text)) 2 && eqb (get_or text 0 0) 105) ≡ false = and_right (eqb (length (c ∷ text)) 2) (eqb (get_or text 0 0) 105) other in
    let p = Some (power_of_ten (pos 0)) in
    let q = option_map power_of_ten (decimal_suffix c) in
    let r = option_map whole_factor (binary_suffix c) in
    let s = option_map power_of_ten (exponent_of text) in
    ap (λ b. cond b p (cond (eqb (length (c ∷ text)) 1) q (cond (eqb (length (c ∷ text)) 2 && eqb (get_or text 0 0) 105) r (cond (eqb c 101 || eqb c 69) s None)))) none
    ∙ ap (λ b. cond b q (cond (eqb (length (c ∷ text)) 2 && eqb (get_or text 0 0) 105) r (cond (eqb c 101 || eqb c 69) s None))) one
    ∙ ap (λ b. cond b r (cond (eqb c 101 || eqb c 69) s None)) two
    ∙ ap (λ b. cond b s None) letter
    ∙ ap (λ o. option_map power_of_ten o) e

-- the first byte of a sign and digits isn't an `i`
no_i_digits : (ds : List ℕ) → AreDigits ds → 0 < length ds → eqb (get_or ds 0 0) 105 ≡ false
no_i_digits [] all some = absurd (omega arith)
no_i_digits (d ∷ ds) all some = digit_not d 105 (and_parts (is_ascii_digit d) (list_all is_ascii_digit ds) all).0 refl

no_i : (sign ds : List ℕ) (negative : Bool) → IsSign sign negative → AreDigits ds → 0 < length ds → eqb (get_or (sign ++ ds) 0 0) 105 ≡ false
no_i sign ds negative (inl none) all some = subst (λ s. eqb (get_or (s ++ ds) 0 0) 105 ≡ false) (sym none.0) (no_i_digits ds all some)
no_i sign ds negative (inr (inl plus)) all some = subst (λ s. eqb (get_or (s ++ ds) 0 0) 105 ≡ false) (sym plus.0) refl
no_i sign ds negative (inr (inr minus)) all some = subst (λ s. eqb (get_or (s ++ ds) 0 0) 105 ≡ false) (sym minus.0) refl

joined_some : (sign ds : List ℕ) → 0 < length ds → 0 < length (sign ++ ds)
joined_some [] ds some = some
joined_some (x ∷ xs) ds some = omega arith

exponent_is_factor : (text : List ℕ) (z : ℤ) → IsExponent text z → factor_of text ≡ Some (power_of_ten z)
exponent_is_factor text z e =
    let rest = e.sign ++ e.digits in
    let some = joined_some e.sign e.digits e.some_digit in
    let other = no_i e.sign e.digits e.negative e.sign_text e.digits_text e.some_digit in
    let read = exponent-complete e.sign e.digits e.negative z e.sign_text e.digits_text e.some_digit e.value e.within in
    elim e.letter_text as (λ _. factor_of text ≡ Some (power_of_ten z)) [
      | inl small ↦ ap factor_of (e.spelled ∙ ap (λ l. l ++ rest) small) ∙ factor_by_letter 101 rest z some other refl read
      | inr capital ↦ ap factor_of (e.spelled ∙ ap (λ l. l ++ rest) capital) ∙ factor_by_letter 69 rest z some other refl read
    ]

factor-complete : (text : List ℕ) (f : Factor) → IsSuffix text f → factor_of text ≡ Some f
factor-complete text f (inl row) = row_has IsRead suffixes text f rows_are_read row
factor-complete text f (inr e) = exponent_is_factor text e.0 e.1 ∙ ap Some e.2

-- ---- numbers

holding-complete : (d x : Decimal) → IsNormal x → SameNumber x d → fits 31 x.scale ≡ true → quantity_holding d ≡ Some x
unfolding quantity_holding
holding-complete d x normal same within =
    let near = decimal_cmp_total.congr x d (normal_form d) (same_tied x d same) ∙ same_tied d (normal_form d) (sym (normal_form-same d)) in
    let parts = normal_unique x (normal_form d) normal (normal_form-normal d) (tied_same x (normal_form d) near) in
    let one : x ≡ normal_form d = λ i. record { mantissa = parts.0 i; scale = parts.1 i } in
    ap (λ (y : Decimal). cond (fits 31 y.scale) (Some y) None) (sym one) ∙ ap (λ b. cond b (Some x) None) within

value-complete : (negative : Bool) (digits : List ℕ) (places : ℕ) (factor : Factor) (x : Decimal) → digits_value 10 digits * factor.times < 2 ^ 127
    → quantity_holding (decimal_at (with_sign negative (digits_value 10 digits * factor.times)) (factor.tens -ℤ pos places)) ≡ Some x
    → value_of negative digits places factor ≡ Some x
unfolding value_of
value-complete negative digits places factor x small held =
    ap (λ b. cond b (quantity_holding (decimal_at (with_sign negative (digits_value 10 digits * factor.times)) (factor.tens -ℤ pos places))) None) (lt-ltb (digits_value 10 digits * factor.times) (2 ^ 127) small) ∙ held

-- the quantity made of the parts of a text
abbrev quantity_from : Bool → List ℕ → List ℕ → List ℕ → Option Decimal
quantity_from negative whole fraction suffix = cond (eqb (length whole + length fraction) 0) None (option_and_then (value_of negative (whole ++ fraction) (length fraction)) (factor_of suffix))

unsigned_by : (negative : Bool) (text : List ℕ) → unsigned_quantity negative text ≡ quantity_from negative (leading_digits text) (fraction_digits text) (suffix_of text)
unfolding unsigned_quantity
unsigned_by negative text = refl

from_parts : (negative : Bool) (text whole fraction suffix : List ℕ) → Parts text whole fraction suffix → unsigned_quantity negative text ≡ quantity_from negative whole fraction suffix
from_parts negative text whole fraction suffix p =
    unsigned_by negative text
    ∙ ap (λ w. quantity_from negative w (fraction_digits text) (suffix_of text)) p.lead
    ∙ ap (λ w. quantity_from negative whole w (suffix_of text)) p.places
    ∙ ap (λ w. quantity_from negative whole fraction w) p.last

quantity-complete : (text : List ℕ) (x : Decimal) → IsQuantityText text x → quantity_of text ≡ Some x
quantity-complete text x t =
    let rest = t.number ++ t.suffix in
    let follows = suffix_follows t.suffix t.factor t.suffix_text in
    let r = reads_sign t.sign rest t.negative t.sign_text (unsigned_number t.number t.whole t.fraction t.suffix t.number_text) in
    let parts = parts_of t.number t.whole t.fraction t.suffix t.number_text follows.0 follows.1 in
    let d = decimal_at (with_sign t.negative (digits_value 10 (t.whole ++ t.fraction) * t.factor.times)) (t.factor.tens -ℤ pos (length t.fraction)) in
    let value = value-complete t.negative (t.whole ++ t.fraction) (length t.fraction) t.factor x t.size_within (holding-complete d x t.normal t.value t.scale_within) in
    let read = value_of t.negative (t.whole ++ t.fraction) (length t.fraction) in
    let some : eqb (length t.whole + length t.fraction) 0 ≡ false = ne_eqb (length t.whole + length t.fraction) 0 (λ h. omega (arith, t.number_text.2)) in
    by_sign text
    ∙ ap (λ s. unsigned_quantity (starts_with_minus s) (without_leading_sign s)) t.spelled
    ∙ ap (λ n. unsigned_quantity n (without_leading_sign (t.sign ++ rest))) r.0
    ∙ ap (λ s. unsigned_quantity t.negative s) r.1
    ∙ from_parts t.negative rest t.whole t.fraction t.suffix parts
    ∙ ap (λ b. cond b None (option_and_then read (factor_of t.suffix))) some
    ∙ ap (λ o. option_and_then read o) (factor-complete t.suffix t.factor t.suffix_text)
    ∙ value

pub quantity_text : (text : List ℕ) (x : Decimal) → (quantity_of text ≡ Some x) ↔ IsQuantityText text x
quantity_text text x = (quantity-sound text x, quantity-complete text x)
