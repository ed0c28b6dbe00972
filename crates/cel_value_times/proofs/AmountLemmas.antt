-- The amounts of a duration's text: the parser finds exactly the amounts that the text spells.
use Rattle.std.proofs.Common.{◌≡◌, ℕ, ◌+◌, ◌*◌, ◌<◌, ◌≤◌, ◌==◌, Bool, true, false, cond, List, [], ◌∷◌, ◌++◌, length, Option, Some, None, option_map, refl, sym, ap, subst, ◌∙◌, arith, inl, inr, ◌⊎◌, append_assoc, length-append}
use Rattle.std.specs.Prelude.{codes}
use Rattle.std.specs.Option.{option_and_then}
use Rattle.std.proofs.lemmas.Bool.{eqb-true, eqb-false, ne_eqb}
use Rattle.std.proofs.lemmas.Option.{cond_some}
use Rattle.std.specs.Char.{is_ascii_digit}
use Rattle.std.specs.List.{prefix_len}
use Rattle.std.specs.Str.{all_ascii_digits}
use Rattle.cel_value_times.specs.Digits.{number, cut_part, digits_after_dot, fraction_text}
use Rattle.cel_value_times.specs.DurationTexts.{IsUnit, hour, minute, second, millisecond, microsecond, micro_sign, greek_mu, nanosecond, Amount, amount_text, IsAmount, amount_nanoseconds}
use Rattle.cel_value_times.specs.Fronts.{after, leading_digits, after_digits, fraction_at, unit_and_rest, minute_or_millisecond, unit_at, amount_of, amount_with, amount_at}
use Rattle.cel_value_times.proofs.DigitLemmas.{digits_then_rest, leading_are_digits, leading_run, after_run}

-- which way a test went
pub chosen : {A : Type 0} (b : Bool) (x y z : A) → cond b x y ≡ z → ((b ≡ true) × (x ≡ z)) ⊎ ((b ≡ false) × (y ≡ z))
chosen true x y z h = inl (refl, h)
chosen false x y z h = inr (refl, h)

pub map_some : {A B : Type 0} (f : A → B) (o : Option A) (y : B) → option_map f o ≡ Some y → (x : A) × (o ≡ Some x) × (f x ≡ y)
map_some f None y h = cc
map_some f (Some x) y h = (x, refl, cc)

pub then_some : {A B : Type 0} (f : A → Option B) (o : Option A) (y : B) → option_and_then f o ≡ Some y → (x : A) × (o ≡ Some x) × (f x ≡ Some y)
then_some f None y h = cc
then_some f (Some x) y h = (x, refl, h)

pub after_found : (byte : ℕ) (text rest : List ℕ) → after byte text ≡ Some rest → text ≡ byte ∷ rest
after_found byte [] rest h = cc
after_found byte (c ∷ cs) rest h =
    let e = cond_some (c == byte) cs rest h in
    let same : c ≡ byte = eqb-true c byte e.0 in
    let more : cs ≡ rest = e.1 in
    cc

-- the text starts with a unit's name
pub record BeginsWithUnit (text : List ℕ) (found : ℕ × List ℕ) : Type 0 where
  pub name : List ℕ
  pub unit : IsUnit name found.0
  pub spelled : text ≡ name ++ found.1

begins_with : (text name later : List ℕ) (u : ℕ) (x : ℕ × List ℕ) → IsUnit name u → text ≡ name ++ later → (u, later) ≡ x → BeginsWithUnit text x
begins_with text name later u x unit spelled e = subst (λ (y : ℕ × List ℕ). BeginsWithUnit text y) e (record { name = name; unit = unit; spelled = spelled })

with_s : (c u : ℕ) (rest : List ℕ) (x : ℕ × List ℕ) → unit_and_rest u (after 115 rest) ≡ Some x → IsUnit (c ∷ 115 ∷ []) u → BeginsWithUnit (c ∷ rest) x
with_s c u rest x h unit =
    let m = map_some (λ r. (u, r)) (after 115 rest) x h in
    begins_with _ (c ∷ 115 ∷ []) m.0 u x unit (ap (λ (r : List ℕ). c ∷ r) (after_found 115 rest m.0 m.1)) m.2

with_byte_and_s : (c byte u : ℕ) (rest : List ℕ) (x : ℕ × List ℕ) → unit_and_rest u (option_and_then (after 115) (after byte rest)) ≡ Some x → IsUnit (c ∷ byte ∷ 115 ∷ []) u → BeginsWithUnit (c ∷ rest) x
with_byte_and_s c byte u rest x h unit =
    let m = map_some (λ r. (u, r)) (option_and_then (after 115) (after byte rest)) x h in
    let t = then_some (after 115) (after byte rest) m.0 m.1 in
    begins_with _ (c ∷ byte ∷ 115 ∷ []) m.0 u x unit (ap (λ (r : List ℕ). c ∷ r) (after_found byte rest t.0 t.1 ∙ ap (λ (r : List ℕ). byte ∷ r) (after_found 115 t.0 m.0 t.2))) m.2

with_m : (rest : List ℕ) (o : Option (List ℕ)) (x : ℕ × List ℕ) → after 115 rest ≡ o → Some (minute_or_millisecond o rest) ≡ Some x → BeginsWithUnit (109 ∷ rest) x
with_m rest None x e h = begins_with _ (codes "m") rest 60_000_000_000 x (minute refl refl) refl (cc)
with_m rest (Some later) x e h = begins_with _ (codes "ms") later 1_000_000 x (millisecond refl refl) (ap (λ (r : List ℕ). 109 ∷ r) (after_found 115 rest later e)) (cc)

at_byte : (c byte : ℕ) (rest : List ℕ) (x : ℕ × List ℕ) → (c == byte) ≡ true → BeginsWithUnit (byte ∷ rest) x → BeginsWithUnit (c ∷ rest) x
at_byte c byte rest x e h = subst (λ (d : ℕ). BeginsWithUnit (d ∷ rest) x) (sym (eqb-true c byte e)) h

pub unit_found : (text : List ℕ) (x : ℕ × List ℕ) → unit_at text ≡ Some x → BeginsWithUnit text x
unit_found [] x h = cc
unit_found (c ∷ rest) x h =
    elim (chosen (c == 104) _ _ _ h) [
      | inl e ↦ at_byte c 104 rest x e.0 (begins_with _ (codes "h") rest 3_600_000_000_000 x (hour refl refl) refl (some_same e.1))
      | inr e ↦ elim (chosen (c == 109) _ _ _ e.1) [
        | inl e ↦ at_byte c 109 rest x e.0 (with_m rest (after 115 rest) x refl e.1)
        | inr e ↦ elim (chosen (c == 115) _ _ _ e.1) [
          | inl e ↦ at_byte c 115 rest x e.0 (begins_with _ (codes "s") rest 1_000_000_000 x (second refl refl) refl (some_same e.1))
          | inr e ↦ elim (chosen (c == 117) _ _ _ e.1) [
            | inl e ↦ at_byte c 117 rest x e.0 (with_s 117 1_000 rest x e.1 (microsecond refl refl))
            | inr e ↦ elim (chosen (c == 0xc2) _ _ _ e.1) [
              | inl e ↦ at_byte c 0xc2 rest x e.0 (with_byte_and_s 0xc2 0xb5 1_000 rest x e.1 (micro_sign refl refl))
              | inr e ↦ elim (chosen (c == 0xce) _ _ _ e.1) [
                | inl e ↦ at_byte c 0xce rest x e.0 (with_byte_and_s 0xce 0xbc 1_000 rest x e.1 (greek_mu refl refl))
                | inr e ↦ elim (chosen (c == 110) _ _ _ e.1) [
                  | inl e ↦ at_byte c 110 rest x e.0 (with_s 110 1 rest x e.1 (nanosecond refl refl))
                  | inr e ↦ none_some e.1
                ]
              ]
            ]
          ]
        ]
      ]
    ]
  where
    some_same : {y z : ℕ × List ℕ} → Some y ≡ Some z → y ≡ z
    some_same e = cc

    none_some : {P : Type 0} {y : ℕ × List ℕ} → None ≡ Some y → P
    none_some e = cc

-- a unit's name is parsed whole, unless an s follows it
pub unit_only : (name later : List ℕ) (u : ℕ) → IsUnit name u → after 115 later ≡ None → unit_at (name ++ later) ≡ Some (u, later)
unit_only name later u (hour e k) seam = rw (e, k) refl
unit_only name later u (minute e k) seam = rw (e, k, seam) refl
unit_only name later u (second e k) seam = rw (e, k) refl
unit_only name later u (millisecond e k) seam = rw (e, k) refl
unit_only name later u (microsecond e k) seam = rw (e, k) refl
unit_only name later u (micro_sign e k) seam = rw (e, k) refl
unit_only name later u (greek_mu e k) seam = rw (e, k) refl
unit_only name later u (nanosecond e k) seam = rw (e, k) refl

-- it starts with neither a digit nor a dot
pub unit_no_digit : (name later : List ℕ) (u : ℕ) → IsUnit name u → prefix_len is_ascii_digit (name ++ later) ≡ 0
unit_no_digit name later u (hour e k) = rw e refl
unit_no_digit name later u (minute e k) = rw e refl
unit_no_digit name later u (second e k) = rw e refl
unit_no_digit name later u (millisecond e k) = rw e refl
unit_no_digit name later u (microsecond e k) = rw e refl
unit_no_digit name later u (micro_sign e k) = rw e refl
unit_no_digit name later u (greek_mu e k) = rw e refl
unit_no_digit name later u (nanosecond e k) = rw e refl

pub unit_no_dot : (name later : List ℕ) (u : ℕ) → IsUnit name u → fraction_at (name ++ later) ≡ (None, name ++ later)
unit_no_dot name later u (hour e k) = rw e refl
unit_no_dot name later u (minute e k) = rw e refl
unit_no_dot name later u (second e k) = rw e refl
unit_no_dot name later u (millisecond e k) = rw e refl
unit_no_dot name later u (microsecond e k) = rw e refl
unit_no_dot name later u (micro_sign e k) = rw e refl
unit_no_dot name later u (greek_mu e k) = rw e refl
unit_no_dot name later u (nanosecond e k) = rw e refl

abbrev fraction_by : ℕ → List ℕ → Bool → Option (List ℕ) × List ℕ
fraction_by c cs b = cond b (Some (leading_digits cs), after_digits cs) (None, c ∷ cs)

-- a fraction is spelled where it is found
pub fraction_found : (text : List ℕ) → (text ≡ fraction_text (fraction_at text).0 ++ (fraction_at text).1) × (all_ascii_digits (digits_after_dot (fraction_at text).0) ≡ true)
fraction_found [] = (refl, refl)
fraction_found (c ∷ cs) = by_first c cs (c == 46) refl where
  by_first : (c : ℕ) (cs : List ℕ) (b : Bool) → (c == 46) ≡ b → (c ∷ cs ≡ fraction_text (fraction_by c cs b).0 ++ (fraction_by c cs b).1) × (all_ascii_digits (digits_after_dot (fraction_by c cs b).0) ≡ true)
  by_first c cs true e = (ap (λ (d : ℕ). d ∷ cs) (eqb-true c 46 e) ∙ ap (λ (r : List ℕ). 46 ∷ r) (sym (digits_then_rest cs)), leading_are_digits cs)
  by_first c cs false e = (refl, refl)

-- the text starts with an amount
pub record BeginsWithAmount (text : List ℕ) (nanoseconds : ℕ) (later : List ℕ) : Type 0 where
  pub amount : Amount
  pub proper : IsAmount amount
  pub spelled : text ≡ amount_text amount ++ later
  pub value : nanoseconds ≡ amount_nanoseconds amount

spelled_with : (text whole rest point behind name last later : List ℕ) → text ≡ whole ++ rest → rest ≡ point ++ behind → behind ≡ name ++ last → last ≡ later → text ≡ (whole ++ (point ++ name)) ++ later
spelled_with text whole rest point behind name last later a b c d =
    a ∙ (ap (λ (t : List ℕ). whole ++ t) (b ∙ ap (λ (t : List ℕ). point ++ t) (c ∙ ap (λ (t : List ℕ). name ++ t) d)) ∙ sym (simp append_assoc))

pub amount_found : (text : List ℕ) (n : ℕ) (later : List ℕ) → amount_at text ≡ Some (n, later) → BeginsWithAmount text n later
unfolding amount_at
amount_found text n later h =
    elim (chosen (length (leading_digits text) + length (digits_after_dot (fraction_at (after_digits text)).0) == 0) _ _ _ h) [
      | inl e ↦ none_some e.1
      | inr e ↦
          let fraction = fraction_at (after_digits text) in
          let m = map_some (λ (u : ℕ × List ℕ). (number (leading_digits text) * u.0 + cut_part u.0 (digits_after_dot fraction.0), u.1)) (unit_at fraction.1) (n, later) e.1 in
          let unit = unit_found fraction.1 m.0 m.1 in
          let front = fraction_found (after_digits text) in
          let same : m.0.1 ≡ later = ap (λ (p : ℕ × List ℕ). p.1) m.2 in
          let digit : length (leading_digits text) + length (digits_after_dot fraction.0) ≡ 0 → ⊥ = eqb-false _ 0 e.0 in
          record {
            amount = record { whole = leading_digits text; fraction = fraction.0; name = unit.name; unit = m.0.0 };
            proper = record { whole = leading_are_digits text; fraction = front.1; some_digit = omega (arith, digit); unit = unit.unit };
            spelled = spelled_with text (leading_digits text) (after_digits text) (fraction_text fraction.0) fraction.1 unit.name (m.0.1) later (sym (digits_then_rest text)) front.0 unit.spelled same;
            value = ap (λ (p : ℕ × List ℕ). p.0) (sym m.2);
          }
    ]
  where
    none_some : {P : Type 0} {y : ℕ × List ℕ} → None ≡ Some y → P
    none_some e = cc

-- an amount is found where it is spelled
spelled_flat : (whole point name later : List ℕ) → (whole ++ (point ++ name)) ++ later ≡ whole ++ (point ++ (name ++ later))
spelled_flat whole point name later = simp append_assoc

fraction_no_digit : (fraction : Option (List ℕ)) (name later : List ℕ) (u : ℕ) → IsUnit name u → prefix_len is_ascii_digit (fraction_text fraction ++ (name ++ later)) ≡ 0
fraction_no_digit None name later u unit = unit_no_digit name later u unit
fraction_no_digit (Some digits) name later u unit = refl

fraction_only : (fraction : Option (List ℕ)) (name later : List ℕ) (u : ℕ) → IsUnit name u → all_ascii_digits (digits_after_dot fraction) ≡ true → fraction_at (fraction_text fraction ++ (name ++ later)) ≡ (fraction, name ++ later)
fraction_only None name later u unit h = unit_no_dot name later u unit
fraction_only (Some digits) name later u unit h =
    let no = unit_no_digit name later u unit in
    rw (leading_run digits (name ++ later) h no, after_run digits (name ++ later) h no) refl

with_some_digit : (n : ℕ) {A : Type 0} (x : Option A) → 0 < n → cond (n == 0) None x ≡ x
with_some_digit n x h = let no : (n == 0) ≡ false = ne_eqb n 0 (λ e. omega arith) in rw no refl

pub amount_only : (a : Amount) (later : List ℕ) → IsAmount a → after 115 later ≡ None → amount_at (amount_text a ++ later) ≡ Some (amount_nanoseconds a, later)
unfolding amount_at
amount_only a later h end =
    let flat = spelled_flat a.whole (fraction_text a.fraction) a.name later in
    let tail = fraction_text a.fraction ++ (a.name ++ later) in
    let no = fraction_no_digit a.fraction a.name later a.unit h.unit in
    ap amount_at flat
    ∙ (ap (λ (w : List ℕ). amount_with w (fraction_at (after_digits (a.whole ++ tail)))) (leading_run a.whole tail h.whole no)
    ∙ (ap (λ (t : List ℕ). amount_with a.whole (fraction_at t)) (after_run a.whole tail h.whole no)
    ∙ (ap (amount_with a.whole) (fraction_only a.fraction a.name later a.unit h.unit h.fraction)
    ∙ (with_some_digit (length a.whole + length (digits_after_dot a.fraction)) (amount_of a.whole (digits_after_dot a.fraction) (unit_at (a.name ++ later))) h.some_digit
    ∙ ap (amount_of a.whole (digits_after_dot a.fraction)) (unit_only a.name later a.unit h.unit end)))))

-- an amount takes at least one byte
pub amount_shorter : (text : List ℕ) (n : ℕ) (later : List ℕ) → amount_at text ≡ Some (n, later) → length later < length text
amount_shorter text n later e =
    let found = amount_found text n later e in
    let whole = ap length found.spelled in
    let some = found.proper.some_digit in
    let parts : length (amount_text found.amount ++ later) ≡ length found.amount.whole + (length (fraction_text found.amount.fraction) + length found.amount.name) + length later = simp length-append in
    let digits = fraction_longer found.amount.fraction in
    omega arith
  where
    fraction_longer : (fraction : Option (List ℕ)) → length (digits_after_dot fraction) ≤ length (fraction_text fraction)
    fraction_longer None = omega arith
    fraction_longer (Some digits) = omega arith
