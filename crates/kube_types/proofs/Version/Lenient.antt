-- A text that is a version is unchanged by a lenient reading.
use Rattle.semver.proofs.Grammar.{version_parts-sound}
use Rattle.semver.specs.Identifiers.{marked, parts_text}
use Rattle.semver.specs.Order.{parts, strip_zeros}
use Rattle.semver.specs.OrderLaws.{parts-shape}
use Rattle.semver.specs.Parse.{version_parts}
use Rattle.semver.specs.declared.error.Error.{Error}
use Rattle.std.proofs.Common.{◌≡◌, ◌<◌, ◌^◌, ◌+◌, ◌%◌, ◌==◌, ◌&&◌, ℕ, Bool, List, [], ◌∷◌, ◌++◌, length, get_or, true, false, Some, Result, Ok, Err, refl, ◌∙◌, ap, arith, inl, inr, append-nil, subst}
use Rattle.std.proofs.lemmas.Bool.{cases_lt, ne_eqb}
use Rattle.std.proofs.lemmas.Fmt.{decimal_by_steps, decimal_digit, decimal_nonempty, first_decimal}
use Rattle.std.proofs.lemmas.List.Folds.{list_all-append}
use Rattle.std.specs.Char.{is_ascii_digit}
use Rattle.std.specs.Fmt.{decimal}
use Rattle.std.specs.List.{list_all}
use Rattle.std.specs.Prelude.{not, option_and_then}
use Rattle.std.specs.Result.{result_ok}
use Rattle.kube_types.specs.Version.Reading.{strictly, without_v, core_of, tail_of, is_number, number_text, full_text, normal_text, version_of}
use Rattle.kube_types.specs.Version.Shown.{Parts}

abbrev pub AreDigits : List ℕ → Type 0
AreDigits xs = list_all is_ascii_digit xs ≡ true

first_true : (a b : Bool) → (a && b) ≡ true → a ≡ true
first_true true b e = refl
first_true false b e = cc e

second_true : (a b : Bool) → (a && b) ≡ true → b ≡ true
second_true true b e = e
second_true false b e = cc e

-- a decimal number consists of digits
pub decimal-digits : (n : ℕ) → n < 2 ^ 64 → AreDigits (decimal n)
decimal-digits n small = decimal_by_steps (λ _ ds. AreDigits ds)
    (λ k low. let d : is_ascii_digit (48 + k) ≡ true = grind arith in rw d refl)
    (λ k ds big ih.
    let d : is_ascii_digit (48 + k % 10) ≡ true = grind arith in
    list_all-append is_ascii_digit ds ((48 + k % 10) ∷ []) ∙ rw (ih, d) refl)
    n small

first_kept : (ds : List ℕ) → 0 < length ds → 48 < get_or ds 0 0 → number_text ds ≡ ds
unfolding number_text strip_zeros
first_kept [] some first = absurd (omega arith)
first_kept (b ∷ rest) some first =
    let e : (b == 48) ≡ false = ne_eqb b 48 (λ h. omega arith) in
    let n : (length (b ∷ rest) == 0) ≡ false = ne_eqb (length (b ∷ rest)) 0 (λ h. omega arith) in
    rw (e, n) refl

-- a decimal number has no leading zeros
decimal-number : (n : ℕ) → n < 2 ^ 64 → number_text (decimal n) ≡ decimal n
unfolding number_text strip_zeros
decimal-number n small = elim (cases_lt 0 n) [
  | inl some ↦ first_kept (decimal n) (decimal_nonempty n small) (first_decimal n some small)
  | inr none ↦
      let e : n ≡ 0 = omega arith in
      rw (e, decimal_digit 0 (omega arith)) refl
]

decimal-is_number : (n : ℕ) → n < 2 ^ 64 → is_number (decimal n) ≡ true
decimal-is_number n small =
    let some = decimal_nonempty n small in
    let e : (length (decimal n) == 0) ≡ false = ne_eqb (length (decimal n)) 0 (λ h. omega arith) in
    rw (e, decimal-digits n small) refl

-- a digit is no other mark
digit-not : (b c : ℕ) → is_ascii_digit b ≡ true → is_ascii_digit c ≡ false → (b == c) ≡ false
digit-not b c d e = ne_eqb b c (λ same. cc (d, e, ap is_ascii_digit same))

-- leading digits belong to the text's core
pub core-digits : (ds text : List ℕ) → AreDigits ds → core_of (ds ++ text) ≡ ds ++ core_of text
unfolding core_of
core-digits [] text h = refl
core-digits (b ∷ ds) text h =
    let e = digit-not b 45 (first_true (is_ascii_digit b) (list_all is_ascii_digit ds) h) refl in
    rw e (ap (λ l. b ∷ l) (core-digits ds text (second_true (is_ascii_digit b) (list_all is_ascii_digit ds) h)))

pub tail-digits : (ds text : List ℕ) → AreDigits ds → tail_of (ds ++ text) ≡ tail_of text
unfolding tail_of
tail-digits [] text h = refl
tail-digits (b ∷ ds) text h =
    let e = digit-not b 45 (first_true (is_ascii_digit b) (list_all is_ascii_digit ds) h) refl in
    rw e (tail-digits ds text (second_true (is_ascii_digit b) (list_all is_ascii_digit ds) h))

pub core-dot : (text : List ℕ) → core_of (46 ∷ text) ≡ 46 ∷ core_of text
unfolding core_of
core-dot text = refl

pub tail-dot : (text : List ℕ) → tail_of (46 ∷ text) ≡ tail_of text
unfolding tail_of
tail-dot text = refl

-- leading digits are the first part
pub parts-dot : (ds text : List ℕ) → AreDigits ds → parts (ds ++ 46 ∷ text) ≡ ds ∷ parts text
parts-dot [] text h = refl
parts-dot (b ∷ ds) text h =
    let e = digit-not b 46 (first_true (is_ascii_digit b) (list_all is_ascii_digit ds) h) refl in
    rw (e, parts-dot ds text (second_true (is_ascii_digit b) (list_all is_ascii_digit ds) h)) refl

pub parts-one : (ds : List ℕ) → AreDigits ds → parts ds ≡ ds ∷ []
parts-one [] h = refl
parts-one (b ∷ ds) h =
    let e = digit-not b 46 (first_true (is_ascii_digit b) (list_all is_ascii_digit ds) h) refl in
    rw (e, parts-one ds (second_true (is_ascii_digit b) (list_all is_ascii_digit ds) h)) refl

-- a part with a plus, `+` (43), isn't a number
parts-plus : (ds text : List ℕ) → AreDigits ds → (first : List ℕ) × (others : List (List ℕ)) × (parts (ds ++ 43 ∷ text) ≡ (ds ++ 43 ∷ first) ∷ others)
parts-plus [] text h =
    let shape = parts-shape text in
    (shape.0, shape.1, rw shape.2 refl)
parts-plus (b ∷ ds) text h =
    let e = digit-not b 46 (first_true (is_ascii_digit b) (list_all is_ascii_digit ds) h) refl in
    let more = parts-plus ds text (second_true (is_ascii_digit b) (list_all is_ascii_digit ds) h) in
    (more.0, more.1, rw (e, more.2) refl)

not_digits : (ds first : List ℕ) → list_all is_ascii_digit (ds ++ 43 ∷ first) ≡ false
not_digits [] first = refl
not_digits (b ∷ ds) first = elim (is_ascii_digit b) as (λ d. (d && list_all is_ascii_digit (ds ++ 43 ∷ first)) ≡ false) [ true ↦ not_digits ds first | false ↦ refl ]

not_number : (part : List ℕ) → list_all is_ascii_digit part ≡ false → is_number part ≡ false
not_number part e = elim (length part == 0) as (λ none. (not none && list_all is_ascii_digit part) ≡ false) [ true ↦ refl | false ↦ e ]

plus_no_numbers : (ds text : List ℕ) → AreDigits ds → list_all is_number (parts (ds ++ 43 ∷ text)) ≡ false
plus_no_numbers ds text h =
    let shape = parts-plus ds text h in
    rw (shape.2, not_number (ds ++ 43 ∷ shape.0) (not_digits ds shape.0)) refl

-- the three numbers of a version, with dots after the first two
abbrev pub dotted : List ℕ → List ℕ → List ℕ → List ℕ → List ℕ
dotted a b c rest = a ++ (46 ∷ (b ++ (46 ∷ (c ++ rest))))

pub dotted-core : (a b c rest : List ℕ) → AreDigits a → AreDigits b → AreDigits c → core_of (dotted a b c rest) ≡ dotted a b c (core_of rest)
dotted-core a b c rest x y z = rw (core-digits a (46 ∷ (b ++ (46 ∷ (c ++ rest)))) x, core-dot (b ++ (46 ∷ (c ++ rest))), core-digits b (46 ∷ (c ++ rest)) y, core-dot (c ++ rest), core-digits c rest z) refl

pub dotted-tail : (a b c rest : List ℕ) → AreDigits a → AreDigits b → AreDigits c → tail_of (dotted a b c rest) ≡ tail_of rest
dotted-tail a b c rest x y z = rw (tail-digits a (46 ∷ (b ++ (46 ∷ (c ++ rest)))) x, tail-dot (b ++ (46 ∷ (c ++ rest))), tail-digits b (46 ∷ (c ++ rest)) y, tail-dot (c ++ rest), tail-digits c rest z) refl

pub dotted-parts : (a b c rest : List ℕ) → AreDigits a → AreDigits b → parts (dotted a b c rest) ≡ a ∷ b ∷ parts (c ++ rest)
dotted-parts a b c rest x y = rw (parts-dot a (b ++ (46 ∷ (c ++ rest))) x, parts-dot b (c ++ rest) y) refl

-- three numbers followed by a hyphen, or by nothing
numbers_stay : (k m n : ℕ) (rest : List ℕ) → k < 2 ^ 64 → m < 2 ^ 64 → n < 2 ^ 64 → core_of rest ≡ [] → tail_of rest ≡ rest
    → normal_text (dotted (decimal k) (decimal m) (decimal n) rest) ≡ Some (dotted (decimal k) (decimal m) (decimal n) rest)
unfolding normal_text full_text
numbers_stay k m n rest x y z core tail =
    let a = decimal-digits k x in
    let b = decimal-digits m y in
    let c = decimal-digits n z in
    let cut : core_of (dotted (decimal k) (decimal m) (decimal n) rest) ≡ dotted (decimal k) (decimal m) (decimal n) [] =
    dotted-core (decimal k) (decimal m) (decimal n) rest a b c ∙ ap (dotted (decimal k) (decimal m) (decimal n)) core in
    let pieces : parts (dotted (decimal k) (decimal m) (decimal n) []) ≡ decimal k ∷ decimal m ∷ decimal n ∷ [] =
    dotted-parts (decimal k) (decimal m) (decimal n) [] a b
    ∙ ap (λ (l : List ℕ). decimal k ∷ decimal m ∷ parts l) (append-nil (decimal n))
    ∙ ap (λ (l : List (List ℕ)). decimal k ∷ decimal m ∷ l) (parts-one (decimal n) c) in
    let after : tail_of (dotted (decimal k) (decimal m) (decimal n) rest) ≡ rest = dotted-tail (decimal k) (decimal m) (decimal n) rest a b c ∙ tail in
    rw (cut, pieces, after, decimal-is_number k x, decimal-is_number m y, decimal-is_number n z, decimal-number k x, decimal-number m y, decimal-number n z)
    refl

-- three numbers followed by a plus
plus_stays : (k m n : ℕ) (rest : List ℕ) → k < 2 ^ 64 → m < 2 ^ 64 → n < 2 ^ 64
    → normal_text (dotted (decimal k) (decimal m) (decimal n) (43 ∷ rest)) ≡ Some (dotted (decimal k) (decimal m) (decimal n) (43 ∷ rest))
unfolding normal_text core_of
plus_stays k m n rest x y z =
    let a = decimal-digits k x in
    let b = decimal-digits m y in
    let c = decimal-digits n z in
    let cut = dotted-core (decimal k) (decimal m) (decimal n) (43 ∷ rest) a b c in
    let pieces = dotted-parts (decimal k) (decimal m) (decimal n) (43 ∷ core_of rest) a b in
    rw (cut, pieces, decimal-is_number k x, decimal-is_number m y, plus_no_numbers (decimal n) (core_of rest) c) refl

pub hyphen-core : (rest : List ℕ) → core_of (45 ∷ rest) ≡ []
unfolding core_of
hyphen-core rest = refl

pub hyphen-tail : (rest : List ℕ) → tail_of (45 ∷ rest) ≡ 45 ∷ rest
unfolding tail_of
hyphen-tail rest = refl

pub empty-core : core_of [] ≡ []
unfolding core_of
empty-core = refl

pub empty-tail : tail_of [] ≡ []
unfolding tail_of
empty-tail = refl

-- the text of a version is unchanged
pub version_stays : (k m n : ℕ) (pre build : List ℕ) → k < 2 ^ 64 → m < 2 ^ 64 → n < 2 ^ 64
    → normal_text (parts_text (k, m, n, pre, build)) ≡ Some (parts_text (k, m, n, pre, build))
version_stays k m n [] [] x y z = numbers_stay k m n [] x y z empty-core empty-tail
version_stays k m n [] (b ∷ build) x y z = plus_stays k m n (b ∷ build) x y z
version_stays k m n (b ∷ pre) build x y z =
    numbers_stay k m n (45 ∷ ((b ∷ pre) ++ marked 43 build)) x y z (hyphen-core ((b ∷ pre) ++ marked 43 build)) (hyphen-tail ((b ∷ pre) ++ marked 43 build))

digits_keep_v : (ds rest : List ℕ) → AreDigits ds → 0 < length ds → without_v (ds ++ rest) ≡ ds ++ rest
unfolding without_v
digits_keep_v [] rest h some = absurd (omega arith)
digits_keep_v (b ∷ ds) rest h some =
    let d = first_true (is_ascii_digit b) (list_all is_ascii_digit ds) h in
    rw (digit-not b 118 d refl, digit-not b 86 d refl) refl

pub strict_reads : (r : Result Parts Error) (p : Parts) → result_ok r ≡ Some p → r ≡ Ok p
strict_reads (Ok q) p e = ap Ok (let some : Some q ≡ Some p = e in cc some)
strict_reads (Err q) p e = cc e

pub lenient_version : (text : List ℕ) (p : Parts) → version_of false text ≡ Some p → version_of true text ≡ Some p
unfolding version_of strictly
lenient_version text p e =
    let reads : version_parts text ≡ Ok p = strict_reads (version_parts text) p e in
    let sound = version_parts-sound text p reads in
    let valid = sound.1 in
    let bare : without_v text ≡ text = let P : List ℕ → Type 0 = λ t. without_v t ≡ t in
    subst P sound.0 (digits_keep_v (decimal p.0) (46 ∷ (decimal p.1 ++ (46 ∷ (decimal p.2 ++ (marked 45 p.3 ++ marked 43 p.4))))) (decimal-digits p.0 valid.0) (decimal_nonempty p.0 valid.0)) in
    let stays : normal_text text ≡ Some text = let P : List ℕ → Type 0 = λ t. normal_text t ≡ Some t in
    subst P sound.0 (version_stays p.0 p.1 p.2 p.3 p.4 valid.0 valid.1 valid.2) in
    ap (λ t. option_and_then (λ u. result_ok (version_parts u)) (normal_text t)) bare
    ∙ ap (option_and_then (λ u. result_ok (version_parts u))) stays ∙ e
