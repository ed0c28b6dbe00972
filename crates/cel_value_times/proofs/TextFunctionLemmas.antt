-- The functions of texts agree with the relations.
use Rattle.std.proofs.Common.{◌≡◌, ◌↔◌, ℕ, zero, suc, ◌+◌, ◌*◌, ◌/◌, ◌%◌, ◌<◌, ◌≤◌, ◌==◌, ◌&&◌, Bool, true, false, cond, List, [], ◌∷◌, ◌++◌, length, Option, Some, None, option_map, IfSome, IsSomeAnd, inl, inr, refl, sym, ap, subst, ◌∙◌, arith, ℤ, pos, neg_ℤ, ◌+ℤ◌, ◌-ℤ◌, ◌*ℤ◌, ◌<ℤ◌, ◌≤ℤ◌, unsigned_abs}
use Rattle.std.specs.Prelude.{int_lt, codes}
use Rattle.std.specs.Int.{int_div_euclid, int_rem_euclid}
use Rattle.std.proofs.lemmas.Bool.{eqb-true, and_parts, cases_order}
use Rattle.std.proofs.lemmas.Int.{ints}
use Rattle.std.proofs.Math.Nat.{div-div-eq-div-mul}
use Rattle.jiff_core.specs.Calendar.{IsCivilDate, days_from_civil}
use Rattle.jiff_core.proofs.SignedLemmas.{signed_arith, int_div_euclid-parts, int_rem_euclid-parts, unsigned_abs-parts, one_part}
use Rattle.jiff_core.proofs.CalendarLemmas.{days_from_civil-day_count, day_count-day_of_year, day_count-lt_year, day_count-lt_month, day_count-day}
use Rattle.cel_value_times.specs.declared.duration.Duration.{Duration}
use Rattle.cel_value_times.specs.declared.timestamp.Timestamp.{Timestamp}
use Rattle.cel_value_times.specs.Instants.{instant}
use Rattle.cel_value_times.specs.Ranges.{IsDuration, local_second}
use Rattle.cel_value_times.specs.Fronts.{after, amount_at}
use Rattle.cel_value_times.specs.DurationTexts.{AreAmounts, IsMagnitude, IsDurationText, forward, backward}
use Rattle.cel_value_times.specs.TimestampFronts.{parts_at, timestamp_parts}
use Rattle.cel_value_times.specs.TimestampTexts.{Local, IsLocal, second_of, local_text, nanoseconds_text, offset_text, IsPrintedTimestamp, IsTimestampText}
use Rattle.cel_value_times.specs.TextFunctions.{amounts_within, magnitude_of, in_64_bits, signed_of, duration_of, instant_and_offset, timestamp_of, year_of, month_of, day_of, shown_at, text_of_parts, timestamp_text, MeansInstant}
use Rattle.cel_value_times.proofs.AmountLemmas.{amount_shorter, after_found, chosen, map_some}
use Rattle.cel_value_times.proofs.SumLemmas.{nothing, nothing_only, more_amounts, less_amounts, backward_only, forward_only, bare_zero_only}
use Rattle.cel_value_times.proofs.ReadLemmas.{bind_some, same_some, parts_found, parts_only}
use Rattle.cel_value_times.proofs.LawLemmas.{same_text}

-- amounts
pub within_found : (n : ℕ) (text : List ℕ) (k : ℕ) → amounts_within n text ≡ Some k → AreAmounts text k
unfolding amounts_within
within_found zero [] k h = subst (AreAmounts []) (same_some 0 k h) nothing
within_found zero (c ∷ cs) k h = cc
within_found (suc n) [] k h = subst (AreAmounts []) (same_some 0 k h) nothing
within_found (suc n) (c ∷ cs) k h =
    let first = bind_some (amount_at (c ∷ cs)) _ k h in
    let rest = bind_some (amounts_within n first.0.1) _ k first.2 in
    let sum : first.0.0 + rest.0 ≡ k = same_some (first.0.0 + rest.0) k rest.2 in
    subst (AreAmounts (c ∷ cs)) sum (more_amounts (c ∷ cs) first.0.1 first.0.0 rest.0 first.1 (within_found n first.0.1 rest.0 rest.1))

pub within_only : (n : ℕ) (text : List ℕ) (k : ℕ) → length text ≤ n → AreAmounts text k → amounts_within n text ≡ Some k
unfolding amounts_within
within_only zero [] k few h = ap (λ (m : ℕ). Some m) (sym (nothing_only k h))
within_only zero (c ∷ cs) k few h = absurd (omega arith)
within_only (suc n) [] k few h = ap (λ (m : ℕ). Some m) (sym (nothing_only k h))
within_only (suc n) (c ∷ cs) k few h =
    let less = less_amounts (c ∷ cs) k h (omega arith) in
    let shorter = amount_shorter (c ∷ cs) less.first less.later less.read in
    let rest = within_only n less.later less.rest (omega arith) less.more in
    rw less.read (rw rest (ap (λ (m : ℕ). Some m) (sym less.total)))

-- a text without its sign
empty_of : (cs : List ℕ) → length cs ≡ 0 → cs ≡ []
empty_of [] e = refl
empty_of (c ∷ cs) e = absurd (omega arith)

pub magnitude_found : (text : List ℕ) (k : ℕ) → magnitude_of text ≡ Some k → IsMagnitude text k
magnitude_found [] k h = cc
magnitude_found (c ∷ cs) k h =
    elim (chosen ((c == 48) && (length cs == 0)) _ _ _ h) [
      | inl e ↦
          let parts = and_parts (c == 48) (length cs == 0) e.0 in
          let first : c ≡ 48 = eqb-true c 48 parts.0 in
          let none : cs ≡ [] = empty_of cs (eqb-true (length cs) 0 parts.1) in
          inl (cc, sym (same_some 0 k e.1))
      | inr e ↦ inr (omega arith, within_found (length (c ∷ cs)) (c ∷ cs) k e.1)
    ]

pub magnitude_only : (text : List ℕ) (k : ℕ) → IsMagnitude text k → magnitude_of text ≡ Some k
magnitude_only text k (inl h) = rw (h.0, h.1) refl
magnitude_only [] k (inr h) = absurd (omega (arith, h.0))
magnitude_only (c ∷ cs) k (inr h) = by_test ((c == 48) && (length cs == 0)) refl where
  by_test : (b : Bool) → ((c == 48) && (length cs == 0)) ≡ b → cond b (Some 0) (amounts_within (length (c ∷ cs)) (c ∷ cs)) ≡ Some k
  by_test true e =
      let parts = and_parts (c == 48) (length cs == 0) e in
      let first : c ≡ 48 = eqb-true c 48 parts.0 in
      let none : cs ≡ [] = empty_of cs (eqb-true (length cs) 0 parts.1) in
      let zero_text : c ∷ cs ≡ codes "0" = cc in
      ap (λ (m : ℕ). Some m) (sym (bare_zero_only k (subst (λ (t : List ℕ). IsMagnitude t k) zero_text (inr h))))
  by_test false e = within_only (length (c ∷ cs)) (c ∷ cs) k (omega arith) h.1

-- the range
range_found : (n z : ℤ) → in_64_bits n ≡ Some z → IsDuration n × (n ≡ z)
range_found n z h =
    elim (chosen (int_lt n (neg_ℤ (pos 9_223_372_036_854_775_808))) _ _ _ h) [
      | inl e ↦ none_some e.1
      | inr e ↦ elim (chosen (int_lt (pos 9_223_372_036_854_775_807) n) _ _ _ e.1) [
        | inl f ↦ none_some f.1
        | inr f ↦
            let low = e.0 in
            let high = f.0 in
            (omega (arith, signed_arith), same_some n z f.1)
      ]
    ]
  where
    none_some : {P : Type 0} → None ≡ Some z → P
    none_some e = cc

not_less : (a b : ℤ) → b ≤ℤ a → int_lt a b ≡ false
not_less a b h = grind (arith, ints)

less : (a b : ℤ) → a <ℤ b → int_lt a b ≡ true
less a b h = grind (arith, ints)

range_only : (n : ℤ) → IsDuration n → in_64_bits n ≡ Some n
range_only n h =
    let low = not_less n (neg_ℤ (pos 9_223_372_036_854_775_808)) (omega (arith, ints)) in
    let high = not_less (pos 9_223_372_036_854_775_807) n (omega (arith, ints)) in
    rw (low, high) refl

range_as : (n z : ℤ) → n ≡ z → IsDuration z → in_64_bits n ≡ Some z
range_as n z e h = ap in_64_bits e ∙ range_only z h

-- durations
pub duration_found : (text : List ℕ) (z : ℤ) → duration_of text ≡ Some z → IsDurationText text z
unfolding duration_of
duration_found text z h = by_sign (after 45 text) refl h where
  by_sign : (o : Option (List ℕ)) → after 45 text ≡ o → signed_of o text ≡ Some z → IsDurationText text z
  by_sign (Some rest) e h =
      let n = bind_some (magnitude_of rest) _ z h in
      let range = range_found (neg_ℤ (pos n.0)) z n.2 in
      backward rest n.0 (after_found 45 text rest e) (magnitude_found rest n.0 n.1) (sym range.1) (subst IsDuration range.1 range.0)
  by_sign None e h =
      let n = bind_some (magnitude_of text) _ z h in
      let range = range_found (pos n.0) z n.2 in
      forward n.0 (magnitude_found text n.0 n.1) (sym range.1) (subst IsDuration range.1 range.0)

pub duration_only : (text : List ℕ) (z : ℤ) → IsDurationText text z → duration_of text ≡ Some z
unfolding duration_of
duration_only text z h = by_sign (after 45 text) refl where
  by_sign : (o : Option (List ℕ)) → after 45 text ≡ o → signed_of o text ≡ Some z
  by_sign (Some rest) e =
      let means = backward_only text rest z e h in
      rw (magnitude_only rest means.n means.magnitude) (range_as (neg_ℤ (pos means.n)) z (sym means.value) means.in_range)
  by_sign None e =
      let means = forward_only text z e h in
      rw (magnitude_only text means.n means.magnitude) (range_as (pos means.n) z (sym means.value) means.in_range)

pub duration_function : (text : List ℕ) (r : Option Duration) → IfSome r (λ d. IsDurationText text d.nanoseconds) → ((n : ℤ) → IsDurationText text n → IsSomeAnd r (λ d. d.nanoseconds ≡ n)) → option_map (λ d. d.nanoseconds) r ≡ duration_of text
duration_function text (Some d) found only = sym (duration_only text d.nanoseconds found)
duration_function text None found only = by_answer (duration_of text) refl where
  by_answer : (o : Option ℤ) → duration_of text ≡ o → None ≡ o
  by_answer None e = refl
  by_answer (Some z) e = absurd (only z (duration_found text z e))

-- timestamps
pub timestamp_function : (text : List ℕ) (r : Option Timestamp) → option_map timestamp_parts r ≡ parts_at text → option_map (λ t. (instant t, t.offset_minutes)) r ≡ timestamp_of text
unfolding timestamp_of
timestamp_function text None e = ap (option_map instant_and_offset) e
timestamp_function text (Some t) e = ap (option_map instant_and_offset) e

-- the year, the month and the day of a day number
year_is : (n y : ℕ) (day : ℤ) → 1 ≤ y → y ≤ n → int_lt day (days_from_civil (pos y) 1 1) ≡ false → ((later : ℕ) → y < later → int_lt day (days_from_civil (pos later) 1 1) ≡ true) → year_of n day ≡ y
unfolding year_of
year_is zero y day from to begun rest = absurd (omega arith)
year_is (suc n) y day from to begun rest =
    elim (cases_order y (suc n)) [
      | inl e ↦ rw (subst (λ (k : ℕ). int_lt day (days_from_civil (pos k) 1 1) ≡ false) e begun) (sym e)
      | inr (inl lt) ↦ rw (rest (suc n) lt) (year_is n y day from (omega arith) begun rest)
      | inr (inr gt) ↦ absurd (omega arith)
    ]

month_is : (y n m : ℕ) (day : ℤ) → 1 ≤ m → m ≤ n → int_lt day (days_from_civil (pos y) m 1) ≡ false → ((later : ℕ) → m < later → int_lt day (days_from_civil (pos y) later 1) ≡ true) → month_of y n day ≡ m
unfolding month_of
month_is y zero m day from to begun rest = absurd (omega arith)
month_is y (suc n) m day from to begun rest =
    elim (cases_order m (suc n)) [
      | inl e ↦ rw (subst (λ (k : ℕ). int_lt day (days_from_civil (pos y) k 1) ≡ false) e begun) (sym e)
      | inr (inl lt) ↦ rw (rest (suc n) lt) (month_is y n m day from (omega arith) begun rest)
      | inr (inr gt) ↦ absurd (omega arith)
    ]

year_begun : (y m d : ℕ) → 1 ≤ d → days_from_civil (pos y) 1 1 ≤ℤ days_from_civil (pos y) m d
year_begun y m d some =
    let first = days_from_civil-day_count (pos y) 1 1 in
    let here = days_from_civil-day_count (pos y) m d in
    let days = day_count-day_of_year (pos y) m d some in
    omega (arith, signed_arith)

year_later : (y m d later : ℕ) → IsCivilDate (pos y) m d → y < later → days_from_civil (pos y) m d <ℤ days_from_civil (pos later) 1 1
year_later y m d later date lt =
    let first = days_from_civil-day_count (pos later) 1 1 in
    let here = days_from_civil-day_count (pos y) m d in
    let order : pos y <ℤ pos later = omega (arith, signed_arith) in
    let days = day_count-lt_year (pos y) m d (pos later) 1 1 date (omega arith) order in
    omega (arith, signed_arith)

month_begun : (y m d : ℕ) → 1 ≤ d → days_from_civil (pos y) m 1 ≤ℤ days_from_civil (pos y) m d
month_begun y m d some =
    let first = days_from_civil-day_count (pos y) m 1 in
    let here = days_from_civil-day_count (pos y) m d in
    let days = day_count-day (pos y) m d 1 some (omega arith) in
    omega (arith, signed_arith)

month_later : (y m d later : ℕ) → IsCivilDate (pos y) m d → m < later → days_from_civil (pos y) m d <ℤ days_from_civil (pos y) later 1
month_later y m d later date lt =
    let first = days_from_civil-day_count (pos y) later 1 in
    let here = days_from_civil-day_count (pos y) m d in
    let days = day_count-lt_month (pos y) m d later 1 date (omega arith) lt in
    omega (arith, signed_arith)

day_is : (y m d : ℕ) → 1 ≤ d → day_of y m (days_from_civil (pos y) m d) ≡ d
day_is y m d some =
    let first = days_from_civil-day_count (pos y) m 1 in
    let here = days_from_civil-day_count (pos y) m d in
    let days = day_count-day (pos y) m d 1 some (omega arith) in
    let between = days_from_civil (pos y) m d -ℤ days_from_civil (pos y) m 1 in
    let size = unsigned_abs-parts between in
    elim (one_part between) [ inl e ↦ omega (arith, signed_arith) | inr e ↦ omega (arith, signed_arith) ]

date_is : (y m d : ℕ) → IsCivilDate (pos y) m d → 1 ≤ y → (year_of 9999 (days_from_civil (pos y) m d) ≡ y) × (month_of y 12 (days_from_civil (pos y) m d) ≡ m)
date_is y m d date from =
    let day = days_from_civil (pos y) m d in
    let last = date.0.1 in
    let some = date.2.0 in (
      year_is 9999 y day from (omega (arith, signed_arith)) (not_less day (days_from_civil (pos y) 1 1) (year_begun y m d some)) (λ later lt. less day (days_from_civil (pos later) 1 1) (year_later y m d later date lt)),
      month_is y 12 m day date.1.0 date.1.1 (not_less day (days_from_civil (pos y) m 1) (month_begun y m d some)) (λ later lt. less day (days_from_civil (pos y) later 1) (month_later y m d later date lt)),
    )

-- a day and a second of it; a second and its nanoseconds
parts_of_second : (day : ℤ) (second : ℕ) → second < 86_400 → (int_div_euclid (day *ℤ pos 86_400 +ℤ pos second) (pos 86_400) ≡ day) × (unsigned_abs (int_rem_euclid (day *ℤ pos 86_400 +ℤ pos second) (pos 86_400)) ≡ second)
parts_of_second day second few =
    let all = day *ℤ pos 86_400 +ℤ pos second in
    let quotient = int_div_euclid-parts all 86_400 (omega arith) in
    let rest = int_rem_euclid-parts all 86_400 (omega arith) in
    let size = unsigned_abs-parts (int_rem_euclid all (pos 86_400)) in
    let same : int_div_euclid all (pos 86_400) ≡ day = omega (arith, signed_arith) in
    (same, omega (arith, signed_arith))

parts_of_instant : (second : ℤ) (nanoseconds : ℕ) → nanoseconds < 1_000_000_000 → (int_div_euclid (second *ℤ pos 1_000_000_000 +ℤ pos nanoseconds) (pos 1_000_000_000) ≡ second) × (unsigned_abs (int_rem_euclid (second *ℤ pos 1_000_000_000 +ℤ pos nanoseconds) (pos 1_000_000_000)) ≡ nanoseconds)
parts_of_instant second nanoseconds few =
    let all = second *ℤ pos 1_000_000_000 +ℤ pos nanoseconds in
    let quotient = int_div_euclid-parts all 1_000_000_000 (omega arith) in
    let rest = int_rem_euclid-parts all 1_000_000_000 (omega arith) in
    let size = unsigned_abs-parts (int_rem_euclid all (pos 1_000_000_000)) in
    let same : int_div_euclid all (pos 1_000_000_000) ≡ second = omega (arith, signed_arith) in
    (same, omega (arith, signed_arith))

-- the local date and time at the second that it denotes
clock_parts : (h m s : ℕ) → h < 24 → m < 60 → s < 60 → let n = 3600 * h + 60 * m + s in (n / 3600 ≡ h) × (n / 60 % 60 ≡ m) × (n % 60 ≡ s)
clock_parts h m s a b d =
    let n = 3600 * h + 60 * m + s in
    let hours : n / 60 / 60 ≡ n / 3600 = div-div-eq-div-mul n 60 60 in
    (omega arith, omega arith, omega arith)

shown_is : (l : Local) → IsLocal l → local_text (shown_at (second_of l)) 84 ≡ local_text l 84
shown_is l h =
    let hour = h.hour in
    let minute = h.minute in
    let second = h.second in
    let day = days_from_civil (pos l.year) l.month l.day in
    let clock = 3600 * l.hour + 60 * l.minute + l.second in
    let parts = parts_of_second day clock (omega arith) in
    let date = date_is l.year l.month l.day h.date h.from_year_one in
    let times = clock_parts l.hour l.minute l.second hour minute second in
    let shown = shown_at (second_of l) in
    let year : shown.year ≡ l.year = ap (year_of 9999) parts.0 ∙ date.0 in
    let month : shown.month ≡ l.month = ap (λ (z : ℤ). month_of (year_of 9999 z) 12 z) parts.0 ∙ (ap (λ (y : ℕ). month_of y 12 day) date.0 ∙ date.1) in
    let day_in : shown.day ≡ l.day = ap (λ (z : ℤ). day_of (year_of 9999 z) (month_of (year_of 9999 z) 12 z) z) parts.0 ∙ (ap (λ (y : ℕ). day_of y (month_of y 12 day) day) date.0 ∙ (ap (λ (m : ℕ). day_of l.year m day) date.1 ∙ day_is l.year l.month l.day h.date.2.0)) in
    same_text shown l year month day_in
    (ap (λ (n : ℕ). n / 3600) parts.1 ∙ times.0)
    (ap (λ (n : ℕ). n / 60 % 60) parts.1 ∙ times.1)
    (ap (λ (n : ℕ). n % 60) parts.1 ∙ times.2)

pub printed_function : (text : List ℕ) (second : ℤ) (nanoseconds : ℕ) (offset : ℤ) → nanoseconds < 1_000_000_000 → IsPrintedTimestamp text second nanoseconds offset → text ≡ timestamp_text (second *ℤ pos 1_000_000_000 +ℤ pos nanoseconds) offset
unfolding timestamp_text
printed_function text second nanoseconds offset few h =
    let parts = parts_of_instant second nanoseconds few in
    let shown : local_text h.shown 84 ≡ local_text (shown_at (local_second second offset)) 84 = sym (ap (λ (z : ℤ). local_text (shown_at z) 84) h.instant ∙ shown_is h.shown h.is_local) in
    let tail = nanoseconds_text nanoseconds ++ offset_text offset in
    h.spelled ∙ (ap (λ (t : List ℕ). t ++ tail) shown
    ∙ sym (ap (λ (s : ℤ). text_of_parts s (unsigned_abs (int_rem_euclid (second *ℤ pos 1_000_000_000 +ℤ pos nanoseconds) (pos 1_000_000_000))) offset) parts.0
    ∙ ap (λ (n : ℕ). text_of_parts second n offset) parts.1))

-- the laws
pub duration_law : (text : List ℕ) (z : ℤ) → (duration_of text ≡ Some z) ↔ IsDurationText text z
duration_law text z = (duration_found text z, duration_only text z)

timestamp_found : (text : List ℕ) (when offset : ℤ) → timestamp_of text ≡ Some (when, offset) → MeansInstant text when offset
unfolding timestamp_of
timestamp_found text when offset h =
    let p = map_some instant_and_offset (parts_at text) (when, offset) h in
    let zone : p.0.offset ≡ offset = ap (λ (x : ℤ × ℤ). x.1) p.2 in
    record {
      second = p.0.second;
      nanoseconds = p.0.nanoseconds;
      means = subst (IsTimestampText text p.0.second p.0.nanoseconds) zone (parts_found text p.0 p.1);
      value = sym (ap (λ (x : ℤ × ℤ). x.0) p.2);
    }

timestamp_only : (text : List ℕ) (when offset : ℤ) → MeansInstant text when offset → timestamp_of text ≡ Some (when, offset)
unfolding timestamp_of
timestamp_only text when offset h =
    ap (option_map instant_and_offset) (parts_only text h.second h.nanoseconds offset h.means) ∙ ap (λ (z : ℤ). let pair : ℤ × ℤ = (z, offset) in Some pair) (sym h.value)

pub timestamp_law : (text : List ℕ) (when offset : ℤ) → (timestamp_of text ≡ Some (when, offset)) ↔ MeansInstant text when offset
timestamp_law text when offset = (timestamp_found text when offset, timestamp_only text when offset)
