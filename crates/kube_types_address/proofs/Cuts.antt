-- CIDR texts, split at the first slash.
use Rattle.std.proofs.Common.{◌≡◌, ℕ, suc, ◌+◌, ◌-◌, ◌<◌, ◌≤◌, ◌^◌, Bool, true, false, ◌&&◌, ◌||◌, not, cond, eqb, ltb, leb, ◌⊎◌, List, [], ◌∷◌, ◌++◌, length, take, drop, get_or, Option, Some, None, Result, Ok, Err, option_map, decimal, one-add, add-one, length-append, lt-ltb, le-ltb, le-leb, ne_eqb, refl, sym, ap, ap₂, ◌∙◌, subst, arith, inl, inr}
use Rattle.std.proofs.NetLemmas.Options.{cond_some}
use Rattle.std.proofs.lemmas.Bool.Decides.{nat_tests}
use Rattle.std.proofs.lemmas.Bool.{leb-true, ltb-true, lt-leb, cases_lt, cases_eq}
use Rattle.std.proofs.lemmas.Fmt.{IsAscii-from_digits, decimal_is_IsNumeral, decimal_digit, first_decimal}
use Rattle.std.proofs.lemmas.Str.{IsUtf8-from_ascii}
use Rattle.std.proofs.lemmas.Str.Parse.{without_leading_plus_none, digit_from_value}
use Rattle.std.specs.Char.{is_ascii_digit, digit_value}
use Rattle.std.specs.Cmp.{first_so, second_so}
use Rattle.std.specs.List.{list_any, list_all, position, position_or_len}
use Rattle.std.specs.Result.{result_ok}
use Rattle.std.specs.Option.{SomeIff}
use Rattle.std.proofs.lemmas.List.{take_rest}
use Rattle.std.specs.Str.Parse.{AllDigits, IsNumeral, ParsesUnsigned, digits_value, without_leading_plus}
use Rattle.std.specs.Str.{IsUtf8}
use Rattle.std.proofs.NetLemmas.Alphabet.{IsDigitOrDot, IsHexOrColon}
use Rattle.kube_types_address.proofs.Numbers.{width_small}
use Rattle.kube_types_address.proofs.Printing.{printed_lacks, printed_is_text}
use Rattle.kube_types_address.proofs.Readings.{address_of-sound, address_of-complete}
use Rattle.kube_types_address.specs.Addresses.{Address, width, is_mapped}
use Rattle.kube_types_address.specs.CidrTexts.{is_plain, is_slash, length_of, around_slash, cidr_from, cidr_of_parts, written_cidr, unmapped_cidr, cidr_of, cidr_text, IsCidrText, IsCidrAnswer, mapped_cidr_error}
use Rattle.kube_types_address.specs.Prefixes.{Network, IsNetwork}
use Rattle.kube_types_address.specs.Texts.{address_of, address_text}

abbrev network_of : Address → ℕ → Network
network_of a n = record { ip = a; prefix = n }

both_true : (a b : Bool) → a ≡ true → b ≡ true → (a && b) ≡ true
both_true true b h k = k
both_true false b h k = absurd (cc)

digit_below : (c : ℕ) → is_ascii_digit c ≡ true → digit_value c < 10
digit_below c h = grind (arith, nat_tests)

all_digits : (ds : List ℕ) → list_all is_ascii_digit ds ≡ true → AllDigits 10 ds
all_digits [] h = tt
all_digits (c ∷ cs) h = (digit_below c (first_so (is_ascii_digit c) (list_all is_ascii_digit cs) h), all_digits cs (second_so (is_ascii_digit c) (list_all is_ascii_digit cs) h))

-- facts about plain digits
pub record Plain (ds : List ℕ) : Type 0 where
  pub digits : AllDigits 10 ds
  pub some : 0 < length ds
  pub utf8 : IsUtf8 ds
  pub no_plus : without_leading_plus ds ≡ ds

plain_first : (ds : List ℕ) → AllDigits 10 ds → 0 < length ds → get_or ds 0 0 ≡ 43 → ⊥
plain_first [] h l e = omega arith
plain_first (c ∷ cs) h l e = let small = subst (λ x. digit_value x < 10) e h.0 in omega arith

pub plain_from : (ds : List ℕ) → is_plain ds ≡ true → Plain ds
unfolding is_plain
plain_from ds h =
    let short = ltb (length ds) 2 || not (eqb (get_or ds 0 0) 48) in
    let rest = ltb 0 (length ds) && short in
    let all = all_digits ds (first_so (list_all is_ascii_digit ds) rest h) in
    let long = ltb-true 0 (length ds) (first_so (ltb 0 (length ds)) short (second_so (list_all is_ascii_digit ds) rest h)) in
    record {
      digits = all;
      some = long;
      utf8 = IsUtf8-from_ascii ds (IsAscii-from_digits ds all);
      no_plus = without_leading_plus_none ds (plain_first ds all long);
    }

-- the length of plain digits, by comparing their number with the most
length_by : (most : ℕ) (ds : List ℕ) (b : Bool) → is_plain ds ≡ true → leb (digits_value 10 ds) most ≡ b → length_of most ds ≡ cond b (Some (digits_value 10 ds)) None
unfolding length_of
length_by most ds b plain e = ap₂ (λ x y. cond (x && y) (Some (digits_value 10 ds)) None) plain e

parse_cases : (E : Type 0) (ds : List ℕ) (r : Result ℕ E) → is_plain ds ≡ true → ParsesUnsigned {E = E} 8 10 ds r → SomeIff (result_ok r) (digits_value 10 ds < 2 ^ 8) (digits_value 10 ds)
parse_cases E ds (Ok n) plain parsed =
    let value : digits_value 10 (without_leading_plus ds) ≡ digits_value 10 ds = ap (digits_value 10) (plain_from ds plain).no_plus in
    (subst (λ x. x < 2 ^ 8) value parsed.0.1, parsed.1 ∙ value)
parse_cases E ds (Err e) plain parsed =
    let p = plain_from ds plain in
    let numeral : IsNumeral 10 (without_leading_plus ds) = subst (IsNumeral 10) (sym p.no_plus) (p.some, p.digits) in
    let value : digits_value 10 (without_leading_plus ds) ≡ digits_value 10 ds = ap (digits_value 10) p.no_plus in
    λ fits. parsed (numeral, subst (λ x. x < 2 ^ 8) (sym value) fits)

-- the number of plain digits is too large for 8 bits, above the most, or neither
pub length_large : (most : ℕ) (ds : List ℕ) → most < 2 ^ 8 → is_plain ds ≡ true → ¬ (digits_value 10 ds < 2 ^ 8) → length_of most ds ≡ None
length_large most ds h plain large = elim (cases_lt most (digits_value 10 ds)) as (λ _. length_of most ds ≡ None) [
  | inl above ↦ length_by most ds false plain (lt-leb (digits_value 10 ds) most above)
  | inr within ↦ absurd (large (omega arith))
]

pub length_above : (most : ℕ) (ds : List ℕ) → is_plain ds ≡ true → most < digits_value 10 ds → length_of most ds ≡ None
length_above most ds plain above = length_by most ds false plain (lt-leb (digits_value 10 ds) most above)

pub length_known : (most : ℕ) (ds : List ℕ) → is_plain ds ≡ true → digits_value 10 ds ≤ most → length_of most ds ≡ Some (digits_value 10 ds)
length_known most ds plain within = length_by most ds true plain (le-leb (digits_value 10 ds) most within)

-- the result of `parse` of `std` for plain digits
pub parse_some : (E : Type 0) (ds text : List ℕ) (r : Result ℕ E) (o : Option ℕ) → is_plain ds ≡ true → text ≡ ds → ParsesUnsigned {E = E} 8 10 text r → o ≡ result_ok r → SomeIff o (digits_value 10 ds < 2 ^ 8) (digits_value 10 ds)
parse_some E ds text r o plain same parsed e =
    let on : ParsesUnsigned {E = E} 8 10 ds r = subst (λ t. ParsesUnsigned {E = E} 8 10 t r) same parsed in
    subst (λ x. SomeIff x (digits_value 10 ds < 2 ^ 8) (digits_value 10 ds)) (sym e) (parse_cases E ds r plain on)

pub length_not_plain : (most : ℕ) (ds : List ℕ) → is_plain ds ≡ false → length_of most ds ≡ None
unfolding length_of
length_not_plain most ds e = ap (λ b. cond (b && leb (digits_value 10 ds) most) (Some (digits_value 10 ds)) None) e

length_of-sound : (most n : ℕ) (ds : List ℕ) → length_of most ds ≡ Some n → (is_plain ds ≡ true) × (digits_value 10 ds ≡ n) × (n ≤ most)
unfolding length_of
length_of-sound most n ds h =
    let value = digits_value 10 ds in
    let found = cond_some (is_plain ds && leb value most) value n h in
    let within = leb-true value most (second_so (is_plain ds) (leb value most) found.0) in
    (first_so (is_plain ds) (leb value most) found.0, found.1, subst (λ x. x ≤ most) found.1 within)

length_of-complete : (most n : ℕ) (ds : List ℕ) → is_plain ds ≡ true → digits_value 10 ds ≡ n → n ≤ most → length_of most ds ≡ Some n
length_of-complete most n ds plain value within =
    length_by most ds true plain (le-leb (digits_value 10 ds) most (subst (λ x. x ≤ most) (sym value) within)) ∙ ap Some value

-- ---- the first slash

or_false : (a b : Bool) → (a || b) ≡ false → (a ≡ false) × (b ≡ false)
or_false true b h = absurd (cc)
or_false false b h = (refl, h)

offset_after : (front back : List ℕ) → list_any is_slash front ≡ false → position_or_len is_slash (front ++ 47 ∷ back) ≡ length front
offset_after [] back h = refl
offset_after (x ∷ xs) back h =
    let parts = or_false (is_slash x) (list_any is_slash xs) h in
    ap (λ b. cond (not b) (1 + position_or_len is_slash (xs ++ 47 ∷ back)) 0) parts.0
    ∙ ap (λ n. 1 + n) (offset_after xs back parts.1) ∙ one-add (length xs)

take_front : (front back : List ℕ) → take (length front) (front ++ back) ≡ front
take_front [] back = refl
take_front (x ∷ xs) back = ap (λ t. x ∷ t) (take_front xs back)

drop_front : (front back : List ℕ) (c : ℕ) → drop (suc (length front)) (front ++ c ∷ back) ≡ back
drop_front [] back c = refl
drop_front (x ∷ xs) back c = drop_front xs back c

pub around-complete : (front back : List ℕ) → list_any is_slash front ≡ false → around_slash (front ++ 47 ∷ back) ≡ Some (front, back)
unfolding around_slash
around-complete front back h =
    let text = front ++ 47 ∷ back in
    let offset = offset_after front back h in
    let long : length front < length text = omega (arith, length-append front (47 ∷ back)) in
    let found : position is_slash text ≡ Some (length front) =
    ap (λ i. cond (ltb i (length text)) (Some i) None) offset ∙ ap (λ b. cond b (Some (length front)) None) (lt-ltb (length front) (length text) long) in
    ap (λ o. option_map (λ i. (take i text, drop (i + 1) text)) o) found
    ∙ ap₂ (λ a b. Some (a, b)) (take_front front (47 ∷ back)) (ap (λ i. drop i text) (add-one (length front)) ∙ drop_front front back 47)

no_offset : (text : List ℕ) → list_any is_slash text ≡ false → position_or_len is_slash text ≡ length text
no_offset [] h = refl
no_offset (x ∷ xs) h =
    let parts = or_false (is_slash x) (list_any is_slash xs) h in
    ap (λ b. cond (not b) (1 + position_or_len is_slash xs) 0) parts.0 ∙ ap (λ n. 1 + n) (no_offset xs parts.1) ∙ one-add (length xs)

around_none : (text : List ℕ) → list_any is_slash text ≡ false → around_slash text ≡ None
unfolding around_slash
around_none text h =
    ap (λ o. option_map (λ i. (take i text, drop (i + 1) text)) o)
    (ap (λ i. cond (ltb i (length text)) (Some i) None) (no_offset text h) ∙ ap (λ b. cond b (Some (length text)) None) (le-ltb (length text) (length text) (omega arith)))

-- a text split at its first slash
record Cut (text : List ℕ) : Type 0 where
  front : List ℕ
  back : List ℕ
  spelled : text ≡ front ++ 47 ∷ back
  clear : list_any is_slash front ≡ false

cut_more : (x : ℕ) (xs : List ℕ) → is_slash x ≡ false → (list_any is_slash xs ≡ false) ⊎ Cut xs → (list_any is_slash (x ∷ xs) ≡ false) ⊎ Cut (x ∷ xs)
cut_more x xs e (inl none) = inl (ap (λ b. b || list_any is_slash xs) e ∙ none)
cut_more x xs e (inr c) = inr (record {
  front = x ∷ c.front;
  back = c.back;
  spelled = ap (λ t. x ∷ t) c.spelled;
  clear = ap (λ b. b || list_any is_slash c.front) e ∙ c.clear;
})

cut_cases : (text : List ℕ) → (list_any is_slash text ≡ false) ⊎ Cut text
cut_cases [] = inl refl
cut_cases (x ∷ xs) = elim (cases_eq x 47) as (λ _. (list_any is_slash (x ∷ xs) ≡ false) ⊎ Cut (x ∷ xs)) [
  | inl here ↦ inr (record { front = []; back = xs; spelled = ap (λ y. y ∷ xs) here; clear = refl })
  | inr other ↦ cut_more x xs (ne_eqb x 47 other) (cut_cases xs)
]

none_is_not_some : {A : Type 0} (o : Option A) (x : A) → o ≡ None → o ≡ Some x → ⊥
none_is_not_some o x h k = cc

same_some : {A : Type 0} (x y : A) → ◌≡◌ {A = Option A} (Some x) (Some y) → x ≡ y
same_some x y e = cc

around-sound : (text : List ℕ) (p : List ℕ × List ℕ) → around_slash text ≡ Some p → (text ≡ p.0 ++ 47 ∷ p.1) × (list_any is_slash p.0 ≡ false)
around-sound text p h = elim (cut_cases text) as (λ _. (text ≡ p.0 ++ 47 ∷ p.1) × (list_any is_slash p.0 ≡ false)) [
  | inl none ↦ absurd (none_is_not_some (around_slash text) p (around_none text none) h)
  | inr c ↦
      let found = ap around_slash c.spelled ∙ around-complete c.front c.back c.clear in
      let same = same_some (c.front, c.back) p (sym found ∙ h) in
      (subst (λ q. text ≡ q.0 ++ 47 ∷ q.1) same c.spelled, subst (λ q. list_any is_slash q.0 ≡ false) same c.clear)
]

-- the split of a text at the offset of its first slash
pub around_by_offset : (text : List ℕ) (offset : ℕ) → position is_slash text ≡ Some offset → around_slash text ≡ Some (take offset text, take (length text - (offset + 1)) (drop (offset + 1) text))
unfolding around_slash
around_by_offset text offset e =
    ap (λ o. option_map (λ i. (take i text, drop (i + 1) text)) o) e ∙ ap (λ t. Some (take offset text, t)) (sym (take_rest text (offset + 1)))

-- ---- the grammar

pub written-complete : (text : List ℕ) (c : Network) → IsCidrText text c → written_cidr text ≡ Some c
unfolding written_cidr
written-complete text c t =
    ap cidr_of_parts (ap around_slash t.spelled ∙ around-complete t.front t.digits t.first_slash)
    ∙ ap (λ o. cidr_from o t.digits) (address_of-complete t.front c.ip t.ip_text)
    ∙ ap (λ o. option_map (λ n. record { ip = c.ip; prefix = n }) o) (length_of-complete (width c.ip) c.prefix t.digits t.prefix_text.0 t.prefix_text.1 t.within)

sound_length : (text : List ℕ) (p : List ℕ × List ℕ) (a : Address) (l : Option ℕ) (c : Network) → around_slash text ≡ Some p → address_of p.0 ≡ Some a → length_of (width a) p.1 ≡ l → option_map (λ n. network_of a n) l ≡ Some c → IsCidrText text c
sound_length text p a None c e f g h = absurd (cc)
sound_length text p a (Some n) c e f g h =
    let cut = around-sound text p e in
    let length_is = length_of-sound (width a) n p.1 g in
    subst (IsCidrText text) (same_some (network_of a n) c h) (record {
      front = p.0;
      digits = p.1;
      spelled = cut.0;
      first_slash = cut.1;
      ip_text = address_of-sound p.0 a f;
      prefix_text = (length_is.0, length_is.1);
      within = length_is.2;
    })

sound_from : (text : List ℕ) (p : List ℕ × List ℕ) (o : Option Address) (c : Network) → around_slash text ≡ Some p → address_of p.0 ≡ o → cidr_from o p.1 ≡ Some c → IsCidrText text c
sound_from text p None c e f h = absurd (cc)
sound_from text p (Some a) c e f h = sound_length text p a (length_of (width a) p.1) c e f refl h

sound_parts : (text : List ℕ) (o : Option (List ℕ × List ℕ)) (c : Network) → around_slash text ≡ o → cidr_of_parts o ≡ Some c → IsCidrText text c
sound_parts text None c e h = absurd (cc)
sound_parts text (Some p) c e h = sound_from text p (address_of p.0) c e refl h

pub written-sound : (text : List ℕ) (c : Network) → written_cidr text ≡ Some c → IsCidrText text c
unfolding written_cidr
written-sound text c h = sound_parts text (around_slash text) c refl h

network_none_or_some : (o : Option Network) → (o ≡ None) ⊎ ((c : Network) × (o ≡ Some c))
network_none_or_some None = inl refl
network_none_or_some (Some c) = inr (c, refl)

written-none : (text : List ℕ) → ((c : Network) → ¬ (IsCidrText text c)) → written_cidr text ≡ None
written-none text h = elim (network_none_or_some (written_cidr text)) as (λ _. written_cidr text ≡ None) [
  | inl none ↦ none
  | inr w ↦ absurd (h w.0 (written-sound text w.0 w.1))
]

-- the cases of the result
pub cidr_by : (text : List ℕ) (o : Option Network) → written_cidr text ≡ o → cidr_of text ≡ unmapped_cidr o
unfolding cidr_of
cidr_by text o e = ap unmapped_cidr e

pub cidr_mapped : (text : List ℕ) (c : Network) → written_cidr text ≡ Some c → is_mapped c.ip ≡ true → cidr_of text ≡ Err mapped_cidr_error
cidr_mapped text c e m = cidr_by text (Some c) e ∙ ap (λ b. cond b (Err mapped_cidr_error) (Ok c)) m

pub cidr_address : (text : List ℕ) (c : Network) → written_cidr text ≡ Some c → is_mapped c.ip ≡ false → cidr_of text ≡ Ok c
cidr_address text c e m = cidr_by text (Some c) e ∙ ap (λ b. cond b (Err mapped_cidr_error) (Ok c)) m

mapped_or_not : (text : List ℕ) (c : Network) (m : Bool) → is_mapped c.ip ≡ m → IsCidrText text c → IsCidrAnswer text (cond m (Err mapped_cidr_error) (Ok c))
mapped_or_not text c true e t = inl ((c, t, e), refl)
mapped_or_not text c false e t = (t, e)

answer_by_written : (text : List ℕ) (o : Option Network) → written_cidr text ≡ o → IsCidrAnswer text (unmapped_cidr o)
answer_by_written text None e = inr ((λ c t. none_is_not_some (written_cidr text) c e (written-complete text c t)), refl)
answer_by_written text (Some c) e = mapped_or_not text c (is_mapped c.ip) refl (written-sound text c e)

pub cidr_of-is_answer : (text : List ℕ) → IsCidrAnswer text (cidr_of text)
unfolding cidr_of
cidr_of-is_answer text = answer_by_written text (written_cidr text) refl

pub answer_is-cidr_of : (text : List ℕ) (r : Result Network (List ℕ)) → IsCidrAnswer text r → r ≡ cidr_of text
answer_is-cidr_of text (Ok c) h = sym (cidr_address text c (written-complete text c h.0) h.1)
answer_is-cidr_of text (Err e) (inl h) = ap Err h.1 ∙ sym (cidr_mapped text h.0.0 (written-complete text h.0.0 h.0.1) h.0.2)
answer_is-cidr_of text (Err e) (inr h) = ap Err h.1 ∙ sym (cidr_by text None (written-none text h.0))

-- ---- printed texts

digit_is : (c : ℕ) → digit_value c < 10 → is_ascii_digit c ≡ true
digit_is c h =
    let range = digit_from_value c h in
    both_true (leb 48 c) (leb c 57) (le-leb 48 c range.0) (le-leb c 57 range.1)

digits_are : (ds : List ℕ) → AllDigits 10 ds → list_all is_ascii_digit ds ≡ true
digits_are [] h = refl
digits_are (c ∷ cs) h = both_true (is_ascii_digit c) (list_all is_ascii_digit cs) (digit_is c h.0) (digits_are cs h.1)

or_second : (a b : Bool) → b ≡ true → (a || b) ≡ true
or_second true b h = refl
or_second false b h = h

or_first : (a b : Bool) → a ≡ true → (a || b) ≡ true
or_first true b h = refl
or_first false b h = absurd (cc)

no_needless_zero : (n : ℕ) → n ≤ 128 → (ltb (length (decimal n)) 2 || not (eqb (get_or (decimal n) 0 0) 48)) ≡ true
no_needless_zero n h = elim (cases_eq n 0) as (λ _. (ltb (length (decimal n)) 2 || not (eqb (get_or (decimal n) 0 0) 48)) ≡ true) [
  | inl none ↦
      let text : decimal n ≡ 48 ∷ [] = ap decimal none ∙ decimal_digit 0 (omega arith) in
      or_first _ _ (ap (λ t. ltb (length t) 2) text)
  | inr some ↦
      let first = first_decimal n (omega arith) (omega arith) in
      or_second (ltb (length (decimal n)) 2) _ (ap not (ne_eqb (get_or (decimal n) 0 0) 48 (λ e. omega arith)))
]

decimal_plain : (n : ℕ) → n ≤ 128 → is_plain (decimal n) ≡ true
unfolding is_plain
decimal_plain n h =
    let numeral = (decimal_is_IsNumeral n (omega arith)).0 in
    both_true _ _ (digits_are (decimal n) numeral.1)
    (both_true _ _ (lt-ltb 0 (length (decimal n)) numeral.0) (no_needless_zero n h))

not_slash : (x : ℕ) → IsDigitOrDot x ⊎ IsHexOrColon x → x ≡ 47 → ⊥
not_slash x (inl (inl h)) e = omega arith
not_slash x (inl (inr h)) e = omega arith
not_slash x (inr (inl h)) e = omega arith
not_slash x (inr (inr h)) e = omega arith

pub cidr_read-printed : (c : Network) → IsNetwork c → is_mapped c.ip ≡ false → cidr_of (cidr_text c) ≡ Ok c
cidr_read-printed c net m =
    let small : c.prefix ≤ 128 = omega (arith, net.1, width_small c.ip) in
    cidr_address (cidr_text c) c (written-complete (cidr_text c) c (record {
      front = address_text c.ip;
      digits = decimal c.prefix;
      spelled = refl;
      first_slash = printed_lacks c.ip 47 net.0 not_slash;
      ip_text = printed_is_text c.ip net.0;
      prefix_text = (decimal_plain c.prefix small, (decimal_is_IsNumeral c.prefix (omega arith)).1);
      within = net.1;
    })) m
