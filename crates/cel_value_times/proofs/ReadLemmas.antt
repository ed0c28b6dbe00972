-- A timestamp's text, part by part: the parser finds exactly what the text spells.
use Rattle.std.proofs.Common.{◌≡◌, ℕ, ◌+◌, ◌-◌, ◌*◌, ◌/◌, ◌%◌, ◌<◌, ◌≤◌, ◌==◌, ◌&&◌, ◌||◌, nat_lt, nat_le, Bool, true, false, cond, List, [], ◌∷◌, ◌++◌, length, Option, Some, None, refl, sym, ap, subst, ◌∙◌, arith, inl, inr, append_assoc, ℤ, pos, neg_ℤ, ◌+ℤ◌, ◌*ℤ◌, ◌≤ℤ◌}
use Rattle.std.specs.Prelude.{int_lt}
use Rattle.std.proofs.lemmas.Bool.{eqb-true, and_parts, and_from, or_cases, lt-ltb, ltb-true, le-leb, leb-true}
use Rattle.std.proofs.lemmas.Bool.Decides.{nat_tests}
use Rattle.std.proofs.lemmas.Int.{ints}
use Rattle.std.proofs.lemmas.Option.{cond_some}
use Rattle.std.specs.Char.{is_ascii_digit}
use Rattle.std.specs.List.{prefix_len}
use Rattle.std.specs.Str.{all_ascii_digits}
use Rattle.jiff_core.specs.Calendar.{IsBetween, IsDate, IsCivilDate, days_in_month, days_from_civil}
use Rattle.jiff_core.proofs.CalendarLemmas.{days_in_month_bounds}
use Rattle.jiff_core.proofs.SignedLemmas.{signed_arith}
use Rattle.cel_value_times.specs.Ranges.{IsSecond, local_second}
use Rattle.cel_value_times.specs.Digits.{cut_part, digits_after_dot, fraction_text}
use Rattle.cel_value_times.specs.Fronts.{after, fraction_at}
use Rattle.cel_value_times.specs.TimestampTexts.{two_digits, four_digits, date_text, time_text, clock_text, IsOffsetText, utc, small_utc, ahead, behind, IsLetter, IsFraction, IsTimestampText}
use Rattle.cel_value_times.specs.TimestampFronts.{◌>>=◌, two_at, four_at, is_date, day_number_of, date_at, is_clock, seconds_of_day, clock_at, letter_at, part_of, part_at, minutes_at, utc_at, zone_at, Parts, utc_second, in_range, parts_at}
use Rattle.cel_value_times.proofs.AmountLemmas.{after_found, chosen, map_some, fraction_found}
use Rattle.cel_value_times.proofs.DigitLemmas.{digit_below, leading_run, after_run}

pub bind_some : {A B : Type 0} (o : Option A) (f : A → Option B) (y : B) → (o >>= f) ≡ Some y → (x : A) × (o ≡ Some x) × (f x ≡ Some y)
bind_some None f y h = cc
bind_some (Some x) f y h = (x, refl, h)

pub same_some : {A : Type 0} (x y : A) → Some x ≡ Some y → x ≡ y
same_some x y e = cc

pub digit_from : (c : ℕ) → 48 ≤ c → c < 58 → is_ascii_digit c ≡ true
digit_from c low high = grind (arith, nat_tests)

-- two digits
two_of : (a b : ℕ) → is_ascii_digit a ≡ true → is_ascii_digit b ≡ true → (a ≡ 48 + ((a - 48) * 10 + (b - 48)) / 10) × (b ≡ 48 + ((a - 48) * 10 + (b - 48)) % 10) × ((a - 48) * 10 + (b - 48) < 100)
two_of a b da db =
    let ra = digit_below a da in
    let rb = digit_below b db in
    (omega arith, omega arith, omega arith)

pub two_found : (text : List ℕ) (x : ℕ × List ℕ) → two_at text ≡ Some x → (text ≡ two_digits x.0 ++ x.1) × (x.0 < 100)
two_found [] x h = cc
two_found (a ∷ []) x h = cc
two_found (a ∷ (b ∷ rest)) x h =
    let test = cond_some (is_ascii_digit a && is_ascii_digit b) ((a - 48) * 10 + (b - 48), rest) x h in
    let digits = and_parts (is_ascii_digit a) (is_ascii_digit b) test.0 in
    let n = two_of a b digits.0 digits.1 in
    let P : ℕ × List ℕ → Type 0 = λ y. (a ∷ (b ∷ rest) ≡ two_digits y.0 ++ y.1) × (y.0 < 100) in
    let first = n.0 in
    let second = n.1 in
    subst P test.1 (ap (λ (c : ℕ). c ∷ (b ∷ rest)) first ∙ ap (λ (c : ℕ). (48 + ((a - 48) * 10 + (b - 48)) / 10) ∷ (c ∷ rest)) second, n.2)

pub two_only : (n : ℕ) (rest : List ℕ) → n < 100 → two_at (two_digits n ++ rest) ≡ Some (n, rest)
two_only n rest small =
    let high = digit_from (48 + n / 10) (omega arith) (omega arith) in
    let low = digit_from (48 + n % 10) (omega arith) (omega arith) in
    let value : (48 + n / 10 - 48) * 10 + (48 + n % 10 - 48) ≡ n = omega arith in
    rw (and_from _ _ high low) (ap (λ (m : ℕ). Some (m, rest)) value)

-- four
pub four_found : (text : List ℕ) (x : ℕ × List ℕ) → four_at text ≡ Some x → (text ≡ four_digits x.0 ++ x.1) × (x.0 < 10_000)
unfolding four_at
four_found text x h =
    let century = bind_some (two_at text) _ x h in
    let year = bind_some (two_at century.0.1) _ x century.2 in
    let c = two_found text century.0 century.1 in
    let y = two_found century.0.1 year.0 year.1 in
    four_is text century.0.0 century.0.1 year.0.0 year.0.1 x c.1 y.1 c.0 y.0 year.2
  where
    four_is : (text : List ℕ) (c : ℕ) (between : List ℕ) (y : ℕ) (rest : List ℕ) (x : ℕ × List ℕ) → c < 100 → y < 100 → text ≡ two_digits c ++ between → between ≡ two_digits y ++ rest → Some (let p : ℕ × List ℕ = (c * 100 + y, rest) in p) ≡ Some x → (text ≡ four_digits x.0 ++ x.1) × (x.0 < 10_000)
    four_is text c between y rest x small less a b e =
        let P : ℕ × List ℕ → Type 0 = λ z. (text ≡ four_digits z.0 ++ z.1) × (z.0 < 10_000) in
        let p : ℕ × List ℕ = (c * 100 + y, rest) in
        let same : p ≡ x = same_some p x e in
        let high : c ≡ (c * 100 + y) / 100 = omega arith in
        let low : y ≡ (c * 100 + y) % 100 = omega arith in
        let whole : text ≡ two_digits c ++ (two_digits y ++ rest) = a ∙ ap (λ (t : List ℕ). two_digits c ++ t) b in
        subst P same (whole ∙ ap (λ (p : ℕ). two_digits p ++ (two_digits y ++ rest)) high ∙ ap (λ (p : ℕ). two_digits ((c * 100 + y) / 100) ++ (two_digits p ++ rest)) low, omega arith)

pub four_only : (n : ℕ) (rest : List ℕ) → n < 10_000 → four_at (four_digits n ++ rest) ≡ Some (n, rest)
unfolding four_at
four_only n rest small =
    let value : n / 100 * 100 + n % 100 ≡ n = omega arith in
    rw (two_only (n / 100) (two_digits (n % 100) ++ rest) (omega arith)) (rw (two_only (n % 100) rest (omega arith)) (ap (λ (m : ℕ). Some (m, rest)) value))

-- the date
pub record FoundDate (text : List ℕ) (x : ℤ × List ℕ) : Type 0 where
  pub year : ℕ
  pub month : ℕ
  pub day : ℕ
  pub spelled : text ≡ date_text year month day ++ x.1
  pub is_date : IsCivilDate (pos year) month day
  pub from_one : 1 ≤ year
  pub number : x.0 ≡ days_from_civil (pos year) month day

date_true : (y m d : ℕ) → is_date (record { year = y; month = m; day = d }) ≡ true → y < 10_000 → IsCivilDate (pos y) m d × (1 ≤ y)
date_true y m d h small =
    let a = and_parts (nat_le 1 y) _ h in
    let b = and_parts (nat_le 1 m) _ a.1 in
    let e = and_parts (nat_le m 12) _ b.1 in
    let f = and_parts (nat_le 1 d) _ e.1 in
    let year = leb-true 1 y a.0 in
    (((omega (arith, signed_arith), omega (arith, signed_arith)), (leb-true 1 m b.0, leb-true m 12 e.0), (leb-true 1 d f.0, leb-true d (days_in_month (pos y) m) f.1)), year)

date_holds : (y m d : ℕ) → IsCivilDate (pos y) m d → 1 ≤ y → is_date (record { year = y; month = m; day = d }) ≡ true
date_holds y m d h from =
    and_from _ _ (le-leb 1 y from) (and_from _ _ (le-leb 1 m h.1.0) (and_from _ _ (le-leb m 12 h.1.1) (and_from _ _ (le-leb 1 d h.2.0) (le-leb d (days_in_month (pos y) m) h.2.1))))

date_is : (text t₁ t₂ t₃ t₄ rest : List ℕ) (y m d : ℕ) → text ≡ four_digits y ++ t₁ → t₁ ≡ 45 ∷ t₂ → t₂ ≡ two_digits m ++ t₃ → t₃ ≡ 45 ∷ t₄ → t₄ ≡ two_digits d ++ rest → text ≡ date_text y m d ++ rest
date_is text t₁ t₂ t₃ t₄ rest y m d a b e f g =
    a ∙ ap (λ (t : List ℕ). four_digits y ++ t) (b ∙ ap (λ (t : List ℕ). 45 ∷ t) (e ∙ ap (λ (t : List ℕ). two_digits m ++ t) (f ∙ ap (λ (t : List ℕ). 45 ∷ t) g)))

pub date_found : (text : List ℕ) (x : ℤ × List ℕ) → date_at text ≡ Some x → FoundDate text x
unfolding date_at
date_found text x h =
    let year = bind_some (four_at text) _ x h in
    let second = bind_some (after 45 year.0.1) _ x year.2 in
    let month = bind_some (two_at second.0) _ x second.2 in
    let third = bind_some (after 45 month.0.1) _ x month.2 in
    let day = bind_some (two_at third.0) _ x third.2 in
    let number = bind_some (day_number_of (record { year = year.0.0; month = month.0.0; day = day.0.0 })) _ x day.2 in
    let y = four_found text year.0 year.1 in
    let m = two_found second.0 month.0 month.1 in
    let d = two_found third.0 day.0 day.1 in
    let test = cond_some (is_date (record { year = year.0.0; month = month.0.0; day = day.0.0 })) (days_from_civil (pos year.0.0) month.0.0 day.0.0) number.0 number.1 in
    let date = date_true year.0.0 month.0.0 day.0.0 test.0 y.1 in
    let found : ℤ × List ℕ = (number.0, day.0.1) in
    let same : found ≡ x = same_some found x number.2 in
    let spelled = date_is text year.0.1 second.0 month.0.1 third.0 day.0.1 year.0.0 month.0.0 day.0.0 y.0 (after_found 45 year.0.1 second.0 second.1) m.0 (after_found 45 month.0.1 third.0 third.1) d.0 in
    subst (λ (z : ℤ × List ℕ). FoundDate text z) same (record { year = year.0.0; month = month.0.0; day = day.0.0; spelled = spelled; is_date = date.0; from_one = date.1; number = sym test.1 })

pub date_only : (y m d : ℕ) (rest : List ℕ) → IsCivilDate (pos y) m d → 1 ≤ y → date_at (date_text y m d ++ rest) ≡ Some (days_from_civil (pos y) m d, rest)
unfolding date_at
date_only y m d rest h from =
    let year = h.0.1 in
    let days = (days_in_month_bounds (pos y) m).0 in
    let month_small = h.1.1 in
    let day_small = h.2.1 in
    rw (four_only y (45 ∷ (two_digits m ++ (45 ∷ (two_digits d ++ rest)))) (omega (arith, signed_arith)))
    (rw (two_only m (45 ∷ (two_digits d ++ rest)) (omega arith))
    (rw (two_only d rest (omega arith))
    (rw (date_holds y m d h from) refl)))

-- the clock
pub record FoundClock (text : List ℕ) (x : ℕ × List ℕ) : Type 0 where
  pub hour : ℕ
  pub minute : ℕ
  pub second : ℕ
  pub spelled : text ≡ time_text hour minute second ++ x.1
  pub hours : hour < 24
  pub minutes : minute < 60
  pub seconds : second < 60
  pub value : x.0 ≡ 3600 * hour + 60 * minute + second

clock_true : (h m s : ℕ) → is_clock h m s ≡ true → (h < 24) × (m < 60) × (s < 60)
clock_true h m s e =
    let a = and_parts (nat_lt h 24) _ e in
    let b = and_parts (nat_lt m 60) _ a.1 in
    (ltb-true h 24 a.0, ltb-true m 60 b.0, ltb-true s 60 b.1)

clock_holds : (h m s : ℕ) → h < 24 → m < 60 → s < 60 → is_clock h m s ≡ true
clock_holds h m s a b e = and_from _ _ (lt-ltb h 24 a) (and_from _ _ (lt-ltb m 60 b) (lt-ltb s 60 e))

time_is : (text t₁ t₂ t₃ t₄ rest : List ℕ) (h m s : ℕ) → text ≡ two_digits h ++ t₁ → t₁ ≡ 58 ∷ t₂ → t₂ ≡ two_digits m ++ t₃ → t₃ ≡ 58 ∷ t₄ → t₄ ≡ two_digits s ++ rest → text ≡ time_text h m s ++ rest
time_is text t₁ t₂ t₃ t₄ rest h m s a b e f g =
    a ∙ ap (λ (t : List ℕ). two_digits h ++ t) (b ∙ ap (λ (t : List ℕ). 58 ∷ t) (e ∙ ap (λ (t : List ℕ). two_digits m ++ t) (f ∙ ap (λ (t : List ℕ). 58 ∷ t) g)))

pub clock_found : (text : List ℕ) (x : ℕ × List ℕ) → clock_at text ≡ Some x → FoundClock text x
unfolding clock_at
clock_found text x h =
    let hour = bind_some (two_at text) _ x h in
    let second_text = bind_some (after 58 hour.0.1) _ x hour.2 in
    let minute = bind_some (two_at second_text.0) _ x second_text.2 in
    let third_text = bind_some (after 58 minute.0.1) _ x minute.2 in
    let second = bind_some (two_at third_text.0) _ x third_text.2 in
    let total = bind_some (seconds_of_day hour.0.0 minute.0.0 second.0.0) _ x second.2 in
    let a = two_found text hour.0 hour.1 in
    let b = two_found second_text.0 minute.0 minute.1 in
    let e = two_found third_text.0 second.0 second.1 in
    let test = cond_some (is_clock hour.0.0 minute.0.0 second.0.0) (3600 * hour.0.0 + 60 * minute.0.0 + second.0.0) total.0 total.1 in
    let range = clock_true hour.0.0 minute.0.0 second.0.0 test.0 in
    let found : ℕ × List ℕ = (total.0, second.0.1) in
    let same : found ≡ x = same_some found x total.2 in
    let spelled = time_is text hour.0.1 second_text.0 minute.0.1 third_text.0 second.0.1 hour.0.0 minute.0.0 second.0.0 a.0 (after_found 58 hour.0.1 second_text.0 second_text.1) b.0 (after_found 58 minute.0.1 third_text.0 third_text.1) e.0 in
    subst (λ (z : ℕ × List ℕ). FoundClock text z) same (record { hour = hour.0.0; minute = minute.0.0; second = second.0.0; spelled = spelled; hours = range.0; minutes = range.1; seconds = range.2; value = sym test.1 })

pub clock_only : (h m s : ℕ) (rest : List ℕ) → h < 24 → m < 60 → s < 60 → clock_at (time_text h m s ++ rest) ≡ Some (3600 * h + 60 * m + s, rest)
unfolding clock_at
clock_only h m s rest a b e =
    rw (two_only h (58 ∷ (two_digits m ++ (58 ∷ (two_digits s ++ rest)))) (omega arith))
    (rw (two_only m (58 ∷ (two_digits s ++ rest)) (omega arith))
    (rw (two_only s rest (omega arith))
    (rw (clock_holds h m s a b e) refl)))

-- the letter
pub letter_found : (text rest : List ℕ) → letter_at text ≡ Some rest → (c : ℕ) × IsLetter c × (text ≡ c ∷ rest)
letter_found [] rest h = cc
letter_found (c ∷ cs) rest h =
    let test = cond_some ((c == 84) || (c == 116)) cs rest h in
    let spelled : c ∷ cs ≡ c ∷ rest = ap (λ (t : List ℕ). c ∷ t) test.1 in
    elim (or_cases (c == 84) (c == 116) test.0) [
      | inl e ↦ (c, inl (eqb-true c 84 e), spelled)
      | inr e ↦ (c, inr (eqb-true c 116 e), spelled)
    ]

pub letter_only : (c : ℕ) (rest : List ℕ) → IsLetter c → letter_at (c ∷ rest) ≡ Some rest
letter_only c rest (inl e) = rw e refl
letter_only c rest (inr e) = rw e refl

-- hours and minutes at the end
minutes_true : (h m : ℕ) (rest : List ℕ) → (nat_lt h 24 && (nat_lt m 60 && (length rest == 0))) ≡ true → (h < 24) × (m < 60) × (length rest ≡ 0)
minutes_true h m rest e =
    let a = and_parts (nat_lt h 24) _ e in
    let b = and_parts (nat_lt m 60) _ a.1 in
    (ltb-true h 24 a.0, ltb-true m 60 b.0, eqb-true (length rest) 0 b.1)

clock_is : (text t₁ t₂ rest : List ℕ) (h m n : ℕ) → h < 24 → m < 60 → 60 * h + m ≡ n → length rest ≡ 0 → text ≡ two_digits h ++ t₁ → t₁ ≡ 58 ∷ t₂ → t₂ ≡ two_digits m ++ rest → (text ≡ clock_text n) × (n < 1440)
clock_is text t₁ t₂ (c ∷ cs) h m n small less value none a b e = absurd (omega arith)
clock_is text t₁ t₂ [] h m n small less value none a b e =
    let high : h ≡ n / 60 = omega arith in
    let low : m ≡ n % 60 = omega arith in (
      a ∙ ap (λ (t : List ℕ). two_digits h ++ t) (b ∙ ap (λ (t : List ℕ). 58 ∷ t) e)
          ∙ (ap (λ (k : ℕ). two_digits k ++ (58 ∷ two_digits m)) high ∙ ap (λ (k : ℕ). two_digits (n / 60) ++ (58 ∷ two_digits k)) low),
      omega arith,
    )

pub minutes_found : (text : List ℕ) (n : ℕ) → minutes_at text ≡ Some n → (text ≡ clock_text n) × (n < 1440)
unfolding minutes_at
minutes_found text n h =
    let hour = bind_some (two_at text) _ n h in
    let second_text = bind_some (after 58 hour.0.1) _ n hour.2 in
    let minute = bind_some (two_at second_text.0) _ n second_text.2 in
    let a = two_found text hour.0 hour.1 in
    let b = two_found second_text.0 minute.0 minute.1 in
    let test = cond_some (nat_lt hour.0.0 24 && (nat_lt minute.0.0 60 && (length minute.0.1 == 0))) (60 * hour.0.0 + minute.0.0) n minute.2 in
    let range = minutes_true hour.0.0 minute.0.0 minute.0.1 test.0 in
    clock_is text hour.0.1 second_text.0 minute.0.1 hour.0.0 minute.0.0 n range.0 range.1 test.1 range.2 a.0 (after_found 58 hour.0.1 second_text.0 second_text.1) b.0

pub minutes_only : (n : ℕ) → n < 1440 → minutes_at (clock_text n) ≡ Some n
unfolding minutes_at
minutes_only n small =
    let hours : n / 60 < 24 = omega arith in
    let minutes : n % 60 < 60 = omega arith in
    let value : 60 * (n / 60) + n % 60 ≡ n = omega arith in
    rw (two_only (n / 60) (58 ∷ two_digits (n % 60)) (omega arith))
    (rw (two_only (n % 60) [] (omega arith))
    (rw (lt-ltb (n / 60) 24 hours, lt-ltb (n % 60) 60 minutes) (ap (λ (k : ℕ). Some k) value)))

-- the offset
utc_found : (rest : List ℕ) (z : ℤ) → utc_at rest ≡ Some z → (rest ≡ []) × (z ≡ pos 0)
utc_found [] z h = (refl, sym (same_some (pos 0) z h))
utc_found (c ∷ cs) z h = none_some h where
  none_some : {P : Type 0} → None ≡ Some z → P
  none_some e = cc

pub zone_found : (text : List ℕ) (z : ℤ) → zone_at text ≡ Some z → IsOffsetText text z
zone_found [] z h = cc
zone_found (c ∷ rest) z h =
    elim (chosen ((c == 90) || (c == 122)) _ _ _ h) [
      | inl e ↦
          let none = utc_found rest z e.1 in
          elim (or_cases (c == 90) (c == 122) e.0) [
            | inl f ↦ utc (at_two c 90 rest [] (eqb-true c 90 f) none.0) none.1
            | inr f ↦ small_utc (at_two c 122 rest [] (eqb-true c 122 f) none.0) none.1
          ]
      | inr e ↦ elim (chosen (c == 43) _ _ _ e.1) [
        | inl f ↦
            let m = map_some (λ n. pos n) (minutes_at rest) z f.1 in
            let n = minutes_found rest m.0 m.1 in
            ahead m.0 n.1 (at_two c 43 rest (clock_text m.0) (eqb-true c 43 f.0) n.0) (sym m.2)
        | inr f ↦ elim (chosen (c == 45) _ _ _ f.1) [
          | inl g ↦
              let m = map_some (λ n. neg_ℤ (pos n)) (minutes_at rest) z g.1 in
              let n = minutes_found rest m.0 m.1 in
              behind m.0 n.1 (at_two c 45 rest (clock_text m.0) (eqb-true c 45 g.0) n.0) (sym m.2)
          | inr g ↦ none_some g.1
        ]
      ]
    ]
  where
    none_some : {P : Type 0} {y : ℤ} → None ≡ Some y → P
    none_some e = cc

    at_two : (c d : ℕ) (rest more : List ℕ) → c ≡ d → rest ≡ more → c ∷ rest ≡ d ∷ more
    at_two c d rest more e f = cc

pub zone_only : (text : List ℕ) (z : ℤ) → IsOffsetText text z → zone_at text ≡ Some z
zone_only text z (utc e k) = rw (e, k) refl
zone_only text z (small_utc e k) = rw (e, k) refl
zone_only text z (ahead n small e k) = rw (e, k) (rw (minutes_only n small) refl)
zone_only text z (behind n small e k) = rw (e, k) (rw (minutes_only n small) refl)

-- an offset starts with neither a digit nor a dot
zone_no_digit : (text : List ℕ) (z : ℤ) → IsOffsetText text z → prefix_len is_ascii_digit text ≡ 0
zone_no_digit text z (utc e k) = rw e refl
zone_no_digit text z (small_utc e k) = rw e refl
zone_no_digit text z (ahead n small e k) = rw e refl
zone_no_digit text z (behind n small e k) = rw e refl

zone_no_dot : (text : List ℕ) (z : ℤ) → IsOffsetText text z → fraction_at text ≡ (None, text)
zone_no_dot text z (utc e k) = rw e refl
zone_no_dot text z (small_utc e k) = rw e refl
zone_no_dot text z (ahead n small e k) = rw e refl
zone_no_dot text z (behind n small e k) = rw e refl

-- the fraction
pub record FoundPart (text : List ℕ) (x : ℕ × List ℕ) : Type 0 where
  pub fraction : Option (List ℕ)
  pub spelled : text ≡ fraction_text fraction ++ x.1
  pub is_fraction : IsFraction fraction
  pub value : x.0 ≡ cut_part 1_000_000_000 (digits_after_dot fraction)

part_is : (text : List ℕ) (fraction : Option (List ℕ)) (rest : List ℕ) (x : ℕ × List ℕ) → text ≡ fraction_text fraction ++ rest → all_ascii_digits (digits_after_dot fraction) ≡ true → part_of fraction rest ≡ Some x → FoundPart text x
part_is text None rest x spelled digits h =
    let found : ℕ × List ℕ = (0, rest) in
    subst (λ (y : ℕ × List ℕ). FoundPart text y) (same_some found x h) (record { fraction = None; spelled = spelled; is_fraction = tt; value = refl })
part_is text (Some []) rest x spelled digits h = none_some h where
  none_some : {P : Type 0} {y : ℕ × List ℕ} → None ≡ Some y → P
  none_some e = cc
part_is text (Some (c ∷ cs)) rest x spelled digits h =
    let found : ℕ × List ℕ = (cut_part 1_000_000_000 (c ∷ cs), rest) in
    subst (λ (y : ℕ × List ℕ). FoundPart text y) (same_some found x h) (record { fraction = Some (c ∷ cs); spelled = spelled; is_fraction = (omega arith, digits); value = refl })

pub part_found : (text : List ℕ) (x : ℕ × List ℕ) → part_at text ≡ Some x → FoundPart text x
part_found text x h =
    let front = fraction_found text in
    part_is text (fraction_at text).0 (fraction_at text).1 x front.0 front.1 h

pub part_only : (fraction : Option (List ℕ)) (zone : List ℕ) (z : ℤ) → IsFraction fraction → IsOffsetText zone z → part_at (fraction_text fraction ++ zone) ≡ Some (cut_part 1_000_000_000 (digits_after_dot fraction), zone)
part_only None zone z h offset = rw (zone_no_dot zone z offset) refl
part_only (Some []) zone z h offset = absurd (omega (arith, h.0))
part_only (Some (c ∷ cs)) zone z h offset =
    let no = zone_no_digit zone z offset in
    rw (leading_run (c ∷ cs) zone h.1 no, after_run (c ∷ cs) zone h.1 no) refl

-- the whole text
in_range_true : (p q : Parts) → in_range p ≡ Some q → IsSecond p.second × (p ≡ q)
in_range_true p q h =
    elim (chosen (int_lt p.second (neg_ℤ (pos 62_135_596_800))) _ _ _ h) [
      | inl e ↦ none_some e.1
      | inr e ↦ elim (chosen (int_lt (pos 253_402_300_799) p.second) _ _ _ e.1) [
        | inl f ↦ none_some f.1
        | inr f ↦
            let low = e.0 in
            let high = f.0 in
            ((omega (arith, signed_arith), omega (arith, signed_arith)), same_some p q f.1)
      ]
    ]
  where
    none_some : {P : Type 0} {y : Parts} → None ≡ Some y → P
    none_some e = cc

in_range_holds : (p : Parts) → IsSecond p.second → in_range p ≡ Some p
in_range_holds p h =
    let low : int_lt p.second (neg_ℤ (pos 62_135_596_800)) ≡ false = not_less p.second (neg_ℤ (pos 62_135_596_800)) h.0 in
    let high : int_lt (pos 253_402_300_799) p.second ≡ false = not_less (pos 253_402_300_799) p.second h.1 in
    rw (low, high) refl
  where
    not_less : (a b : ℤ) → b ≤ℤ a → int_lt a b ≡ false
    not_less a b h = grind (arith, ints)

local_is : (second day offset : ℤ) (clock : ℕ) → second ≡ utc_second day clock offset → local_second second offset ≡ day *ℤ pos 86_400 +ℤ pos clock
local_is second day offset clock e = omega (arith, ints)

utc_is : (second day offset : ℤ) (clock : ℕ) → local_second second offset ≡ day *ℤ pos 86_400 +ℤ pos clock → utc_second day clock offset ≡ second
utc_is second day offset clock e = omega (arith, ints)

text_is : (text t₁ t₂ t₃ t₄ date time fraction : List ℕ) (c : ℕ) → text ≡ date ++ t₁ → t₁ ≡ c ∷ t₂ → t₂ ≡ time ++ t₃ → t₃ ≡ fraction ++ t₄ → text ≡ (date ++ (c ∷ time)) ++ (fraction ++ t₄)
text_is text t₁ t₂ t₃ t₄ date time fraction c a b e f =
    a ∙ (ap (λ (t : List ℕ). date ++ t) (b ∙ ap (λ (t : List ℕ). c ∷ t) (e ∙ ap (λ (t : List ℕ). time ++ t) f)) ∙ sym (simp append_assoc))

pub parts_found : (text : List ℕ) (p : Parts) → parts_at text ≡ Some p → IsTimestampText text p.second p.nanoseconds p.offset
unfolding parts_at
parts_found text p h =
    let day = bind_some (date_at text) _ p h in
    let rest = bind_some (letter_at day.0.1) _ p day.2 in
    let clock = bind_some (clock_at rest.0) _ p rest.2 in
    let part = bind_some (part_at clock.0.1) _ p clock.2 in
    let offset = bind_some (zone_at part.0.1) _ p part.2 in
    let d = date_found text day.0 day.1 in
    let l = letter_found day.0.1 rest.0 rest.1 in
    let c = clock_found rest.0 clock.0 clock.1 in
    let f = part_found clock.0.1 part.0 part.1 in
    let z = zone_found part.0.1 offset.0 offset.1 in
    let found : Parts = record { second = utc_second day.0.0 clock.0.0 offset.0; nanoseconds = part.0.0; offset = offset.0 } in
    let range = in_range_true found p offset.2 in
    let there = local_is (utc_second day.0.0 clock.0.0 offset.0) day.0.0 offset.0 clock.0.0 refl in
    subst (λ (q : Parts). IsTimestampText text q.second q.nanoseconds q.offset) range.1 (record {
      shown = record { year = d.year; month = d.month; day = d.day; hour = c.hour; minute = c.minute; second = c.second };
      letter = l.0;
      fraction = f.fraction;
      zone = part.0.1;
      spelled = text_is text day.0.1 rest.0 clock.0.1 part.0.1 (date_text d.year d.month d.day) (time_text c.hour c.minute c.second) (fraction_text f.fraction) l.0 d.spelled l.2 c.spelled f.spelled;
      is_local = record { date = d.is_date; from_year_one = d.from_one; hour = c.hours; minute = c.minutes; second = c.seconds };
      is_letter = l.1;
      is_fraction = f.is_fraction;
      is_zone = z;
      instant = there ∙ (ap (λ (k : ℤ). k *ℤ pos 86_400 +ℤ pos clock.0.0) d.number ∙ ap (λ (k : ℕ). days_from_civil (pos d.year) d.month d.day *ℤ pos 86_400 +ℤ pos k) c.value);
      cut = f.value;
      in_range = range.0;
    })

pub parts_only : (text : List ℕ) (second : ℤ) (nanoseconds : ℕ) (offset : ℤ) → IsTimestampText text second nanoseconds offset → parts_at text ≡ Some (record { second = second; nanoseconds = nanoseconds; offset = offset })
unfolding parts_at
parts_only text second nanoseconds offset h =
    let l = h.shown in
    let date = date_text l.year l.month l.day in
    let time = time_text l.hour l.minute l.second in
    let tail = fraction_text h.fraction ++ h.zone in
    let flat : (date ++ (h.letter ∷ time)) ++ tail ≡ date ++ (h.letter ∷ (time ++ tail)) = append_assoc date (h.letter ∷ time) tail in
    let day = days_from_civil (pos l.year) l.month l.day in
    let clock = 3600 * l.hour + 60 * l.minute + l.second in
    let whole = utc_is second day offset clock h.instant in
    let found : Parts = record { second = second; nanoseconds = nanoseconds; offset = offset } in
    rw (h.spelled ∙ flat)
    (rw (date_only l.year l.month l.day (h.letter ∷ (time ++ tail)) h.is_local.date h.is_local.from_year_one)
    (rw (letter_only h.letter (time ++ tail) h.is_letter)
    (rw (clock_only l.hour l.minute l.second tail h.is_local.hour h.is_local.minute h.is_local.second)
    (rw (part_only h.fraction h.zone offset h.is_fraction h.is_zone)
    (rw (zone_only h.zone offset h.is_zone)
    (rw (whole, ← h.cut) (in_range_holds found h.in_range)))))))

-- the date, as the parser tests it
pub day_number_yes : (y m d : ℕ) → IsCivilDate (pos y) m d → 1 ≤ y → day_number_of (record { year = y; month = m; day = d }) ≡ Some (days_from_civil (pos y) m d)
day_number_yes y m d h from = rw (date_holds y m d h from) refl

pub day_number_no : (y m d : ℕ) → y < 10_000 → (IsCivilDate (pos y) m d → 1 ≤ y → ⊥) → day_number_of (record { year = y; month = m; day = d }) ≡ None
day_number_no y m d small never = by_test (is_date (record { year = y; month = m; day = d })) refl where
  by_test : (b : Bool) → is_date (record { year = y; month = m; day = d }) ≡ b → cond b (Some (days_from_civil (pos y) m d)) None ≡ None
  by_test true e = let date = date_true y m d e small in absurd (never date.0 date.1)
  by_test false e = refl

pub civil_from_date : (y m d : ℕ) → IsDate (pos y) (pos m) (pos d) → IsCivilDate (pos y) m d
civil_from_date y m d h = (h.0, (omega (arith, signed_arith, h.1.0), omega (arith, signed_arith, h.1.1)), (omega (arith, signed_arith, h.2.0), omega (arith, signed_arith, h.2.1)))

pub date_from_civil : (y m d : ℕ) → IsCivilDate (pos y) m d → IsDate (pos y) (pos m) (pos d)
date_from_civil y m d h = (h.0, (omega (arith, signed_arith, h.1.0), omega (arith, signed_arith, h.1.1)), (omega (arith, signed_arith, h.2.0), omega (arith, signed_arith, h.2.1)))

-- the local second of a date and a time is in range
pub local_in_years : (day : ℤ) (clock : ℕ) (offset : ℤ) → IsBetween (neg_ℤ (pos 719_162)) (pos 2_932_896) day → clock < 86_400 → IsSecond (local_second (utc_second day clock offset) offset)
local_in_years day clock offset h small =
    let there = local_is (utc_second day clock offset) day offset clock refl in
    rw there (omega (arith, ints, h.0), omega (arith, ints, h.1))
