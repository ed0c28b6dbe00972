-- A text parses as a version exactly if it is spelled as one.
use Rattle.semver.proofs.Grammar.{version_parts-sound, version_parts-complete}
use Rattle.semver.specs.Grammar.{IsValid}
use Rattle.semver.specs.Identifiers.{marked, parts_text}
use Rattle.semver.specs.Order.{parts, strip_zeros}
use Rattle.semver.specs.OrderLaws.{join-parts, join_dots}
use Rattle.semver.specs.Parse.{version_parts}
use Rattle.semver.specs.declared.error.Error.{Error}
use Rattle.std.proofs.Common.{◌≡◌, ◌<◌, ◌^◌, ◌+◌, ◌==◌, ◌&&◌, ◌||◌, ◌↔◌, ◌⊎◌, ℕ, Bool, List, [], ◌∷◌, ◌++◌, length, drop, get_or, true, false, cond, Option, Some, None, Result, refl, sym, ◌∙◌, ap, arith, inl, inr, append-nil, append_assoc, subst}
use Rattle.std.proofs.lemmas.Bool.{eqb-true, eqb-false, ne_eqb, and_parts, and_from, not-true}
use Rattle.std.proofs.lemmas.Bool.Decides.{nat_tests}
use Rattle.std.proofs.lemmas.Fmt.{decimal-digits_value, decimal_is_IsNumeral, decimal_digit}
use Rattle.std.proofs.lemmas.Str.Parse.{numerals_by_value, tells_digits}
use Rattle.std.specs.Char.{is_ascii_digit, digit_value}
use Rattle.std.specs.Fmt.{decimal}
use Rattle.std.specs.List.{list_all}
use Rattle.std.specs.Prelude.{not, option_and_then}
use Rattle.std.specs.Result.{result_ok}
use Rattle.std.specs.Str.Parse.{AllDigits, digits_value}
use Rattle.kube_types.specs.Version.LenientTexts.{IsVersionText, IsNumberText, AreNumbers, IsLooseText, IsAfterV, IsLenientText}
use Rattle.kube_types.specs.Version.Reading.{strictly, without_v, core_of, tail_of, is_number, number_text, full_text, normal_text, version_of}
use Rattle.kube_types.proofs.Version.Lenient.{AreDigits, decimal-digits, core-digits, tail-digits, core-dot, tail-dot, parts-dot, parts-one, dotted, dotted-core, dotted-tail, dotted-parts, hyphen-core, hyphen-tail, empty-core, empty-tail, version_stays, strict_reads}
use Rattle.kube_types.specs.Version.Shown.{Parts}

same_some : {A : Type 0} (x y : A) → ◌≡◌ {A = Option A} (Some x) (Some y) → x ≡ y
same_some x y e = cc

then_facts : {A B : Type 0} (f : A → Option B) (o : Option A) (y : B) → option_and_then f o ≡ Some y → (x : A) × (o ≡ Some x) × (f x ≡ Some y)
then_facts f None y h = absurd (cc)
then_facts f (Some x) y h = (x, refl, h)

-- ---- the strict reading

strict-sound : (text : List ℕ) (p : Parts) → strictly text ≡ Some p → IsVersionText text p
unfolding strictly
strict-sound text p h = version_parts-sound text p (strict_reads (version_parts text) p h)

strict-complete : (text : List ℕ) (p : Parts) → IsVersionText text p → strictly text ≡ Some p
unfolding strictly
strict-complete text p v = ap (λ t. result_ok (version_parts t)) (sym v.0) ∙ ap (λ (r : Result Parts Error). result_ok r) (version_parts-complete p v.1)

strict_by : (text : List ℕ) → version_of false text ≡ strictly text
unfolding version_of
strict_by text = refl

pub strict_text : (text : List ℕ) (p : Parts) → (version_of false text ≡ Some p) ↔ IsVersionText text p
strict_text text p = ((λ h. strict-sound text p (sym (strict_by text) ∙ h)), (λ v. strict_by text ∙ strict-complete text p v))

-- ---- a leading `v`

v_by : (b : ℕ) (rest : List ℕ) (x y : Bool) → (b == 118) ≡ x → (b == 86) ≡ y → IsAfterV (b ∷ rest) (cond (x || y) rest (b ∷ rest))
v_by b rest true y e f = inl (ap (λ c. c ∷ rest) (eqb-true b 118 e))
v_by b rest false true e f = inr (inl (ap (λ c. c ∷ rest) (eqb-true b 86 f)))
v_by b rest false false e f = inr (inr (refl, eqb-false b 118 e, eqb-false b 86 f))

v_dropped : (text : List ℕ) → IsAfterV text (without_v text)
unfolding without_v
v_dropped [] = inr (inr (refl, (λ e. absurd (let no : 0 ≡ 118 = e in omega arith)), (λ e. absurd (let no : 0 ≡ 86 = e in omega arith))))
v_dropped (b ∷ rest) = v_by b rest (b == 118) (b == 86) refl refl

no_v : (bare : List ℕ) → (get_or bare 0 0 ≡ 118 → ⊥) → (get_or bare 0 0 ≡ 86 → ⊥) → without_v bare ≡ bare
unfolding without_v
no_v [] small capital = refl
no_v (b ∷ rest) small capital =
    ap (λ x. cond (x || (b == 86)) rest (b ∷ rest)) (ne_eqb b 118 small) ∙ ap (λ x. cond x rest (b ∷ rest)) (ne_eqb b 86 capital)

small_v : (bare : List ℕ) → without_v (118 ∷ bare) ≡ bare
unfolding without_v
small_v bare = refl

capital_v : (bare : List ℕ) → without_v (86 ∷ bare) ≡ bare
unfolding without_v
capital_v bare = refl

v_read : (text bare : List ℕ) → IsAfterV text bare → without_v text ≡ bare
v_read text bare (inl small) = ap without_v small ∙ small_v bare
v_read text bare (inr (inl capital)) = ap without_v capital ∙ capital_v bare
v_read text bare (inr (inr none)) = ap without_v none.0 ∙ no_v bare none.1 none.2

-- ---- numbers with leading zeros

digit_below : (c : ℕ) → is_ascii_digit c ≡ true → digit_value c < 10
digit_below c h = grind (arith, nat_tests)

all_digits : (ds : List ℕ) → AreDigits ds → AllDigits 10 ds
all_digits [] h = tt
all_digits (c ∷ cs) h = let both = and_parts (is_ascii_digit c) (list_all is_ascii_digit cs) h in (digit_below c both.0, all_digits cs both.1)

-- digits as `decimal` writes them for their number
record Plain (digits : List ℕ) (n : ℕ) : Type 0 where
  all : AreDigits digits
  some : 0 < length digits
  alone : get_or digits 0 0 ≡ 48 → length digits ≡ 1
  value : digits_value 10 digits ≡ n

strip_by : (b : ℕ) (rest : List ℕ) (x : Bool) → (b == 48) ≡ x → strip_zeros (b ∷ rest) ≡ cond x (strip_zeros rest) (b ∷ rest)
unfolding strip_zeros
strip_by b rest x e = ap (λ y. cond y (strip_zeros rest) (b ∷ rest)) e

-- digits without their leading zeros
record Stripped (digits rest : List ℕ) : Type 0 where
  all : AreDigits rest
  first : 0 < length rest → get_or rest 0 0 ≡ 48 → ⊥
  value : digits_value 10 rest ≡ digits_value 10 digits

stripped_step : (b : ℕ) (rest : List ℕ) (x : Bool) → (b == 48) ≡ x → AreDigits (b ∷ rest) → Stripped rest (strip_zeros rest) → Stripped (b ∷ rest) (cond x (strip_zeros rest) (b ∷ rest))
stripped_step b rest true e h s =
    let zero_first : digits_value 10 (48 ∷ rest) ≡ digits_value 10 (b ∷ rest) = ap (λ c. digits_value 10 (c ∷ rest)) (sym (eqb-true b 48 e)) in
    record { all = s.all; first = s.first; value = s.value ∙ zero_first }
stripped_step b rest false e h s = record { all = h; first = λ _ same. eqb-false b 48 e same; value = refl }

nothing_stripped : strip_zeros [] ≡ []
unfolding strip_zeros
nothing_stripped = refl

stripped_of : (digits : List ℕ) → AreDigits digits → Stripped digits (strip_zeros digits)
stripped_of [] h = subst (λ r. Stripped [] r) (sym nothing_stripped) (record { all = refl; first = λ some same. absurd (omega arith); value = refl })
stripped_of (b ∷ rest) h =
    let more = stripped_of rest (and_parts (is_ascii_digit b) (list_all is_ascii_digit rest) h).1 in
    subst (λ r. Stripped (b ∷ rest) r) (sym (strip_by b rest (b == 48) refl)) (stripped_step b rest (b == 48) refl h more)

no_bytes : (xs : List ℕ) → length xs ≡ 0 → xs ≡ []
no_bytes [] h = refl
no_bytes (x ∷ xs) h = absurd (omega arith)

plain_by : (digits rest : List ℕ) (x : Bool) → (length rest == 0) ≡ x → Stripped digits rest → Plain (cond x (48 ∷ []) rest) (digits_value 10 digits)
plain_by digits rest true e s =
    let none : rest ≡ [] = no_bytes rest (eqb-true (length rest) 0 e) in
    let zero_value : 0 ≡ digits_value 10 digits = sym (ap (digits_value 10) none) ∙ s.value in
    record { all = refl; some = omega arith; alone = λ _. refl; value = zero_value }
plain_by digits rest false e s =
    let there : 0 < length rest = let none = eqb-false (length rest) 0 e in omega (arith, none) in
    record { all = s.all; some = there; alone = λ same. absurd (s.first there same); value = s.value }

plain_of : (digits : List ℕ) → AreDigits digits → Plain (number_text digits) (digits_value 10 digits)
unfolding number_text
plain_of digits h = plain_by digits (strip_zeros digits) (length (strip_zeros digits) == 0) refl (stripped_of digits h)

plain_decimal : (digits : List ℕ) (n : ℕ) → n < 2 ^ 64 → Plain digits n → digits ≡ decimal n
plain_decimal digits n small p =
    let fits : digits_value 10 digits < 2 ^ 64 = subst (λ v. v < 2 ^ 64) (sym p.value) small in
    sym (decimal-digits_value (numerals_by_value _ tells_digits) digits (all_digits digits p.all) p.some p.alone fits) ∙ ap decimal p.value

-- the text of a number is its decimal form
number_written : (digits : List ℕ) (n : ℕ) → n < 2 ^ 64 → IsNumberText digits n → number_text digits ≡ decimal n
number_written digits n small t = plain_decimal (number_text digits) n small (subst (λ v. Plain (number_text digits) v) t.2 (plain_of digits t.1))

number_digits : (digits : List ℕ) → is_number digits ≡ true → (0 < length digits) × AreDigits digits
number_digits digits h =
    let both = and_parts (not (length digits == 0)) (list_all is_ascii_digit digits) h in
    let none = eqb-false (length digits) 0 (not-true (length digits == 0) both.0) in
    (omega (arith, none), both.1)

is_number_text : (digits : List ℕ) (n : ℕ) → IsNumberText digits n → is_number digits ≡ true
is_number_text digits n t =
    let some = t.0 in
    let there : (length digits == 0) ≡ false = ne_eqb (length digits) 0 (λ h. omega arith) in
    and_from (not (length digits == 0)) (list_all is_ascii_digit digits) (ap not there) t.1

-- digits whose decimal form is known spell that number
number_read : (n : ℕ) (digits : List ℕ) → n < 2 ^ 64 → is_number digits ≡ true → decimal n ≡ number_text digits → IsNumberText digits n
number_read n digits small h e =
    let d = number_digits digits h in
    (d.0, d.1, sym (plain_of digits d.1).value ∙ ap (digits_value 10) (sym e) ∙ (decimal_is_IsNumeral n small).1)

zero_read : (n : ℕ) → n < 2 ^ 64 → decimal n ≡ 48 ∷ [] → n ≡ 0
zero_read n small e = sym (decimal_is_IsNumeral n small).1 ∙ ap (digits_value 10) e

zero_written : (n : ℕ) → n ≡ 0 → 48 ∷ [] ≡ decimal n
zero_written n e = sym (ap decimal e ∙ decimal_digit 0 (omega arith))

-- ---- the end of the digits

abbrev NoDigit : List ℕ → Type 0
NoDigit text = is_ascii_digit (get_or text 0 0) ≡ false

digit_or_not : (b : ℕ) → is_ascii_digit b ≡ true → is_ascii_digit b ≡ false → ⊥
digit_or_not b d e = absurd (cc)

told_apart : (ds es xs ys : List ℕ) → AreDigits ds → AreDigits es → NoDigit xs → NoDigit ys → ds ++ xs ≡ es ++ ys → (ds ≡ es) × (xs ≡ ys)
told_apart [] [] xs ys h k clear bare e = (refl, e)
told_apart [] (c ∷ es) xs ys h k clear bare e =
    let first : get_or xs 0 0 ≡ c = ap (λ (t : List ℕ). get_or t 0 0) e in
    absurd (digit_or_not c (and_parts (is_ascii_digit c) (list_all is_ascii_digit es) k).0 (sym (ap is_ascii_digit first) ∙ clear))
told_apart (b ∷ ds) [] xs ys h k clear bare e =
    let first : b ≡ get_or ys 0 0 = ap (λ (t : List ℕ). get_or t 0 0) e in
    absurd (digit_or_not b (and_parts (is_ascii_digit b) (list_all is_ascii_digit ds) h).0 (ap is_ascii_digit first ∙ bare))
told_apart (b ∷ ds) (c ∷ es) xs ys h k clear bare e =
    let first : b ≡ c = ap (λ (t : List ℕ). get_or t 0 0) e in
    let rest : ds ++ xs ≡ es ++ ys = ap (λ (t : List ℕ). drop 1 t) e in
    let more = told_apart ds es xs ys (and_parts (is_ascii_digit b) (list_all is_ascii_digit ds) h).1 (and_parts (is_ascii_digit c) (list_all is_ascii_digit es) k).1 clear bare rest in
    (ap (λ x. x ∷ ds) first ∙ ap (λ l. c ∷ l) more.0, more.1)

dots_apart : (a b c x y z t u : List ℕ) → AreDigits a → AreDigits b → AreDigits c → AreDigits x → AreDigits y → AreDigits z → NoDigit t → NoDigit u
    → dotted a b c t ≡ dotted x y z u → (a ≡ x) × (b ≡ y) × (c ≡ z) × (t ≡ u)
dots_apart a b c x y z t u ha hb hc hx hy hz clear bare e =
    let one = told_apart a x (46 ∷ (b ++ (46 ∷ (c ++ t)))) (46 ∷ (y ++ (46 ∷ (z ++ u)))) ha hx refl refl e in
    let second : b ++ (46 ∷ (c ++ t)) ≡ y ++ (46 ∷ (z ++ u)) = ap (λ (l : List ℕ). drop 1 l) one.1 in
    let two = told_apart b y (46 ∷ (c ++ t)) (46 ∷ (z ++ u)) hb hy refl refl second in
    let third : c ++ t ≡ z ++ u = ap (λ (l : List ℕ). drop 1 l) two.1 in
    let three = told_apart c z t u hc hz clear bare third in
    (one.0, two.0, three.0, three.1)

-- ---- the text after the numbers

abbrev tail_text : Parts → List ℕ
tail_text p = marked 45 p.3 ++ marked 43 p.4

tail_no_digit : (pre build : List ℕ) → NoDigit (marked 45 pre ++ marked 43 build)
tail_no_digit [] [] = refl
tail_no_digit [] (b ∷ build) = refl
tail_no_digit (b ∷ pre) build = refl

abbrev IsTail : List ℕ → Type 0
IsTail tail = (tail ≡ []) ⊎ (get_or tail 0 0 ≡ 45)

tail_by : (b : ℕ) (rest : List ℕ) (x : Bool) → (b == 45) ≡ x → IsTail (tail_of rest) → IsTail (cond x (b ∷ rest) (tail_of rest))
tail_by b rest true e more = inr (eqb-true b 45 e)
tail_by b rest false e more = more

tail_starts : (text : List ℕ) → IsTail (tail_of text)
unfolding tail_of
tail_starts [] = inl refl
tail_starts (b ∷ rest) = tail_by b rest (b == 45) refl (tail_starts rest)

starts_no_digit : (tail : List ℕ) → IsTail tail → NoDigit tail
starts_no_digit tail (inl e) = ap (λ (t : List ℕ). is_ascii_digit (get_or t 0 0)) e
starts_no_digit tail (inr e) = ap is_ascii_digit e

no_build_alone : (pre build tail : List ℕ) → marked 45 pre ++ marked 43 build ≡ tail → IsTail tail → length pre ≡ 0 → length build ≡ 0
no_build_alone [] [] tail e s h = refl
no_build_alone [] (b ∷ build) tail e (inl none) h = absurd (let no : 43 ∷ b ∷ build ≡ [] = e ∙ none in cc no)
no_build_alone [] (b ∷ build) tail e (inr hyphen) h = absurd (let first : 43 ≡ 45 = ap (λ (t : List ℕ). get_or t 0 0) e ∙ hyphen in omega arith)
no_build_alone (b ∷ pre) build tail e s h = absurd (omega arith)

tail_cut : (pre build : List ℕ) → (length pre ≡ 0 → length build ≡ 0)
    → (core_of (marked 45 pre ++ marked 43 build) ≡ []) × (tail_of (marked 45 pre ++ marked 43 build) ≡ marked 45 pre ++ marked 43 build)
tail_cut [] [] h = (empty-core, empty-tail)
tail_cut [] (b ∷ build) h = absurd (let none : length (b ∷ build) ≡ 0 = h refl in omega arith)
tail_cut (b ∷ pre) build h = (hyphen-core ((b ∷ pre) ++ marked 43 build), hyphen-tail ((b ∷ pre) ++ marked 43 build))

-- ---- the full form

full_one : (major tail : List ℕ) → full_text (major ∷ []) tail ≡ Some (dotted (number_text major) (48 ∷ []) (48 ∷ []) tail)
unfolding full_text
full_one major tail = refl

full_two : (major minor tail : List ℕ) → full_text (major ∷ minor ∷ []) tail ≡ Some (dotted (number_text major) (number_text minor) (48 ∷ []) tail)
unfolding full_text
full_two major minor tail = refl

full_three : (major minor patch tail : List ℕ)
    → full_text (major ∷ minor ∷ patch ∷ []) tail ≡ Some (dotted (number_text major) (number_text minor) (number_text patch) tail)
unfolding full_text
full_three major minor patch tail = refl

full_none : (tail : List ℕ) → full_text [] tail ≡ None
unfolding full_text
full_none tail = refl

full_more : (a b c d : List ℕ) (more : List (List ℕ)) (tail : List ℕ) → full_text (a ∷ b ∷ c ∷ d ∷ more) tail ≡ None
unfolding full_text
full_more a b c d more tail = refl

none_or_some : {A B : Type 0} (o : Option A) (x : A) → o ≡ None → o ≡ Some x → B
none_or_some o x e f = absurd (cc)

-- facts about a full form that is a version
record Numbered (runs : List (List ℕ)) (tail : List ℕ) (p : Parts) : Type 0 where
  values : AreNumbers runs p.0 p.1 p.2
  rest : tail_text p ≡ tail

zero_digits : AreDigits (48 ∷ [])
zero_digits = refl

numbered : (runs : List (List ℕ)) (tail full : List ℕ) (p : Parts) → list_all is_number runs ≡ true → full_text runs tail ≡ Some full → IsVersionText full p → IsTail tail → Numbered runs tail p
numbered [] tail full p h f v s = none_or_some (full_text [] tail) full (full_none tail) f
numbered (x ∷ []) tail full p h f v s =
    let a = (and_parts (is_number x) true h).0 in
    let same : dotted (number_text x) (48 ∷ []) (48 ∷ []) tail ≡ full = same_some (dotted (number_text x) (48 ∷ []) (48 ∷ []) tail) full (sym (full_one x tail) ∙ f) in
    let apart = dots_apart (decimal p.0) (decimal p.1) (decimal p.2) (number_text x) (48 ∷ []) (48 ∷ []) (tail_text p) tail
    (decimal-digits p.0 v.1.0) (decimal-digits p.1 v.1.1) (decimal-digits p.2 v.1.2) (plain_of x (number_digits x a).1).all zero_digits zero_digits
    (tail_no_digit p.3 p.4) (starts_no_digit tail s) (v.0 ∙ sym same) in
    record { values = (number_read p.0 x v.1.0 a apart.0, zero_read p.1 v.1.1 apart.1, zero_read p.2 v.1.2 apart.2); rest = apart.3 }
numbered (x ∷ y ∷ []) tail full p h f v s =
    let both = and_parts (is_number x) (is_number y && true) h in
    let a = both.0 in
    let b = (and_parts (is_number y) true both.1).0 in
    let same : dotted (number_text x) (number_text y) (48 ∷ []) tail ≡ full = same_some (dotted (number_text x) (number_text y) (48 ∷ []) tail) full (sym (full_two x y tail) ∙ f) in
    let apart = dots_apart (decimal p.0) (decimal p.1) (decimal p.2) (number_text x) (number_text y) (48 ∷ []) (tail_text p) tail
    (decimal-digits p.0 v.1.0) (decimal-digits p.1 v.1.1) (decimal-digits p.2 v.1.2) (plain_of x (number_digits x a).1).all (plain_of y (number_digits y b).1).all zero_digits
    (tail_no_digit p.3 p.4) (starts_no_digit tail s) (v.0 ∙ sym same) in
    record { values = (number_read p.0 x v.1.0 a apart.0, number_read p.1 y v.1.1 b apart.1, zero_read p.2 v.1.2 apart.2); rest = apart.3 }
numbered (x ∷ y ∷ z ∷ []) tail full p h f v s =
    let both = and_parts (is_number x) (is_number y && (is_number z && true)) h in
    let more = and_parts (is_number y) (is_number z && true) both.1 in
    let a = both.0 in
    let b = more.0 in
    let c = (and_parts (is_number z) true more.1).0 in
    let same : dotted (number_text x) (number_text y) (number_text z) tail ≡ full = same_some (dotted (number_text x) (number_text y) (number_text z) tail) full (sym (full_three x y z tail) ∙ f) in
    let apart = dots_apart (decimal p.0) (decimal p.1) (decimal p.2) (number_text x) (number_text y) (number_text z) (tail_text p) tail
    (decimal-digits p.0 v.1.0) (decimal-digits p.1 v.1.1) (decimal-digits p.2 v.1.2) (plain_of x (number_digits x a).1).all (plain_of y (number_digits y b).1).all (plain_of z (number_digits z c).1).all
    (tail_no_digit p.3 p.4) (starts_no_digit tail s) (v.0 ∙ sym same) in
    record { values = (number_read p.0 x v.1.0 a apart.0, number_read p.1 y v.1.1 b apart.1, number_read p.2 z v.1.2 c apart.2); rest = apart.3 }
numbered (x ∷ y ∷ z ∷ w ∷ more) tail full p h f v s = none_or_some (full_text (x ∷ y ∷ z ∷ w ∷ more) tail) full (full_more x y z w more tail) f

-- ---- the lenient reading of a text without a leading `v`

core_step : (b : ℕ) (rest core tail : List ℕ) (x : Bool) → core ++ tail ≡ rest → cond x [] (b ∷ core) ++ cond x (b ∷ rest) tail ≡ b ∷ rest
core_step b rest core tail true e = refl
core_step b rest core tail false e = ap (λ t. b ∷ t) e

core_joined : (text : List ℕ) → core_of text ++ tail_of text ≡ text
unfolding core_of tail_of
core_joined [] = refl
core_joined (b ∷ rest) = core_step b rest (core_of rest) (tail_of rest) (b == 45) (core_joined rest)

normal-sound : (bare full : List ℕ) (p : Parts) (x : Bool) → list_all is_number (parts (core_of bare)) ≡ x
    → cond x (full_text (parts (core_of bare)) (tail_of bare)) (Some bare) ≡ Some full → IsVersionText full p → IsVersionText bare p ⊎ IsLooseText bare p
normal-sound bare full p false e h v = inl (subst (λ t. IsVersionText t p) (sym (same_some bare full h)) v)
normal-sound bare full p true e h v =
    let starts = tail_starts bare in
    let n = numbered (parts (core_of bare)) (tail_of bare) full p e h v starts in
    inr (record {
      numbers = parts (core_of bare);
      spelled = sym (core_joined bare) ∙ ap (λ c. c ++ tail_of bare) (sym (join-parts (core_of bare))) ∙ ap (λ t. join_dots (parts (core_of bare)) ++ t) (sym n.rest);
      values = n.values;
      no_build_alone = no_build_alone p.3 p.4 (tail_of bare) n.rest starts;
      valid = v.1;
    })

normal_by : (text core tail : List ℕ) (ps : List (List ℕ)) → core_of text ≡ core → tail_of text ≡ tail → parts core ≡ ps → list_all is_number ps ≡ true → normal_text text ≡ full_text ps tail
unfolding normal_text
normal_by text core tail ps at_core at_tail cut all =
    ap (λ (c : List ℕ). cond (list_all is_number (parts c)) (full_text (parts c) (tail_of text)) (Some text)) at_core
    ∙ ap (λ (t : List ℕ). cond (list_all is_number (parts core)) (full_text (parts core) t) (Some text)) at_tail
    ∙ ap (λ (q : List (List ℕ)). cond (list_all is_number q) (full_text q tail) (Some text)) cut
    ∙ ap (λ (b : Bool). cond b (full_text ps tail) (Some text)) all

normal_cases : (bare : List ℕ) → normal_text bare ≡ cond (list_all is_number (parts (core_of bare))) (full_text (parts (core_of bare)) (tail_of bare)) (Some bare)
unfolding normal_text
normal_cases bare = refl

join_one : (x : List ℕ) → join_dots (x ∷ []) ≡ x
unfolding join_dots
join_one x = refl

join_two : (x y : List ℕ) → join_dots (x ∷ y ∷ []) ≡ x ++ (46 ∷ y)
unfolding join_dots
join_two x y = refl

join_three : (x y z : List ℕ) → join_dots (x ∷ y ∷ z ∷ []) ≡ x ++ (46 ∷ (y ++ (46 ∷ z)))
unfolding join_dots
join_three x y z = refl

both_numbers : (x y : List ℕ) → is_number x ≡ true → is_number y ≡ true → list_all is_number (x ∷ y ∷ []) ≡ true
both_numbers x y a b = and_from (is_number x) (is_number y && true) a (and_from (is_number y) true b refl)

-- the full form of numbers, a hyphen and the rest, or of numbers alone
full-of : (runs : List (List ℕ)) (tail : List ℕ) (k m n : ℕ) → k < 2 ^ 64 → m < 2 ^ 64 → n < 2 ^ 64 → AreNumbers runs k m n
    → core_of tail ≡ [] → tail_of tail ≡ tail → normal_text (join_dots runs ++ tail) ≡ Some (dotted (decimal k) (decimal m) (decimal n) tail)
full-of [] tail k m n hk hm hn v c t = absurd v
full-of (x ∷ []) tail k m n hk hm hn v c t =
    let d = v.0.1 in
    let at_core : core_of (x ++ tail) ≡ x = core-digits x tail d ∙ ap (λ r. x ++ r) c ∙ append-nil x in
    let at_tail : tail_of (x ++ tail) ≡ tail = tail-digits x tail d ∙ t in
    ap (λ (r : List ℕ). normal_text (r ++ tail)) (join_one x)
    ∙ normal_by (x ++ tail) x tail (x ∷ []) at_core at_tail (parts-one x d) (and_from (is_number x) true (is_number_text x k v.0) refl)
    ∙ full_one x tail
    ∙ ap (λ (a : List ℕ). Some (dotted a (48 ∷ []) (48 ∷ []) tail)) (number_written x k hk v.0)
    ∙ ap (λ (a : List ℕ). Some (dotted (decimal k) a (48 ∷ []) tail)) (zero_written m v.1)
    ∙ ap (λ (a : List ℕ). Some (dotted (decimal k) (decimal m) a tail)) (zero_written n v.2)
full-of (x ∷ y ∷ []) tail k m n hk hm hn v c t =
    let d = v.0.1 in
    let e = v.1.1 in
    let text = x ++ (46 ∷ (y ++ tail)) in
    let shape : join_dots (x ∷ y ∷ []) ++ tail ≡ text = ap (λ (r : List ℕ). r ++ tail) (join_two x y) ∙ append_assoc x (46 ∷ y) tail in
    let at_core : core_of text ≡ x ++ (46 ∷ y) = core-digits x (46 ∷ (y ++ tail)) d
    ∙ ap (λ r. x ++ r) (core-dot (y ++ tail) ∙ ap (λ r. 46 ∷ r) (core-digits y tail e ∙ ap (λ r. y ++ r) c ∙ append-nil y)) in
    let at_tail : tail_of text ≡ tail = tail-digits x (46 ∷ (y ++ tail)) d ∙ tail-dot (y ++ tail) ∙ tail-digits y tail e ∙ t in
    let cut : parts (x ++ (46 ∷ y)) ≡ x ∷ y ∷ [] = parts-dot x y d ∙ ap (λ (q : List (List ℕ)). x ∷ q) (parts-one y e) in
    ap normal_text shape
    ∙ normal_by text (x ++ (46 ∷ y)) tail (x ∷ y ∷ []) at_core at_tail cut (both_numbers x y (is_number_text x k v.0) (is_number_text y m v.1))
    ∙ full_two x y tail
    ∙ ap (λ (a : List ℕ). Some (dotted a (number_text y) (48 ∷ []) tail)) (number_written x k hk v.0)
    ∙ ap (λ (a : List ℕ). Some (dotted (decimal k) a (48 ∷ []) tail)) (number_written y m hm v.1)
    ∙ ap (λ (a : List ℕ). Some (dotted (decimal k) (decimal m) a tail)) (zero_written n v.2)
full-of (x ∷ y ∷ z ∷ []) tail k m n hk hm hn v c t =
    let d = v.0.1 in
    let e = v.1.1 in
    let f = v.2.1 in
    let text = dotted x y z tail in
    let shape : join_dots (x ∷ y ∷ z ∷ []) ++ tail ≡ text = ap (λ (r : List ℕ). r ++ tail) (join_three x y z) ∙ append_assoc x (46 ∷ (y ++ (46 ∷ z))) tail
    ∙ ap (λ r. x ++ (46 ∷ r)) (append_assoc y (46 ∷ z) tail) in
    let at_core : core_of text ≡ dotted x y z [] = dotted-core x y z tail d e f ∙ ap (dotted x y z) c in
    let at_tail : tail_of text ≡ tail = dotted-tail x y z tail d e f ∙ t in
    let cut : parts (dotted x y z []) ≡ x ∷ y ∷ z ∷ [] = dotted-parts x y z [] d e
    ∙ ap (λ (l : List ℕ). x ∷ y ∷ parts l) (append-nil z) ∙ ap (λ (q : List (List ℕ)). x ∷ y ∷ q) (parts-one z f) in
    let all : list_all is_number (x ∷ y ∷ z ∷ []) ≡ true = and_from (is_number x) (list_all is_number (y ∷ z ∷ [])) (is_number_text x k v.0) (both_numbers y z (is_number_text y m v.1) (is_number_text z n v.2)) in
    ap normal_text shape
    ∙ normal_by text (dotted x y z []) tail (x ∷ y ∷ z ∷ []) at_core at_tail cut all
    ∙ full_three x y z tail
    ∙ ap (λ (a : List ℕ). Some (dotted a (number_text y) (number_text z) tail)) (number_written x k hk v.0)
    ∙ ap (λ (a : List ℕ). Some (dotted (decimal k) a (number_text z) tail)) (number_written y m hm v.1)
    ∙ ap (λ (a : List ℕ). Some (dotted (decimal k) (decimal m) a tail)) (number_written z n hn v.2)
full-of (x ∷ y ∷ z ∷ w ∷ more) tail k m n hk hm hn v c t = absurd v

normal-complete : (bare : List ℕ) (p : Parts) → IsVersionText bare p ⊎ IsLooseText bare p → normal_text bare ≡ Some (parts_text p)
normal-complete bare p (inl v) = ap normal_text (sym v.0) ∙ version_stays p.0 p.1 p.2 p.3 p.4 v.1.0 v.1.1 v.1.2
normal-complete bare p (inr l) =
    let cut = tail_cut p.3 p.4 l.no_build_alone in
    ap normal_text l.spelled ∙ full-of l.numbers (tail_text p) p.0 p.1 p.2 l.valid.0 l.valid.1 l.valid.2 l.values cut.0 cut.1

either_valid : (bare : List ℕ) (p : Parts) → IsVersionText bare p ⊎ IsLooseText bare p → IsValid p
either_valid bare p (inl v) = v.1
either_valid bare p (inr l) = l.valid

lenient_by : (text : List ℕ) → version_of true text ≡ option_and_then strictly (normal_text (without_v text))
unfolding version_of
lenient_by text = refl

lenient-sound : (text : List ℕ) (p : Parts) → version_of true text ≡ Some p → IsLenientText text p
lenient-sound text p h =
    let bare = without_v text in
    let f = then_facts strictly (normal_text bare) p (sym (lenient_by text) ∙ h) in
    (bare, v_dropped text, normal-sound bare f.0 p (list_all is_number (parts (core_of bare))) refl (sym (normal_cases bare) ∙ f.1) (strict-sound f.0 p f.2))

lenient-complete : (text : List ℕ) (p : Parts) → IsLenientText text p → version_of true text ≡ Some p
lenient-complete text p l =
    lenient_by text
    ∙ ap (λ t. option_and_then strictly (normal_text t)) (v_read text l.0 l.1)
    ∙ ap (option_and_then strictly) (normal-complete l.0 p l.2)
    ∙ strict-complete (parts_text p) p (refl, either_valid l.0 p l.2)

pub lenient_text_is : (text : List ℕ) (p : Parts) → (version_of true text ≡ Some p) ↔ IsLenientText text p
lenient_text_is text p = (lenient-sound text p, lenient-complete text p)
