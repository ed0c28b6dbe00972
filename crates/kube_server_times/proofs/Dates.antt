-- The year, the month and the day of a day number, and the text of a whole second.
use Rattle.std.proofs.Common.{◌≡◌, ℕ, ◌+◌, ◌-◌, ◌*◌, ◌/◌, ◌%◌, ◌<◌, ◌≤◌, List, [], ◌∷◌, ◌++◌, length, get_or, take, drop, refl, sym, ap, ◌∙◌, subst, arith, rules, ℤ, pos, negsuc, neg_ℤ, ◌+ℤ◌, ◌-ℤ◌, ◌*ℤ◌, ◌≤ℤ◌, unsigned_abs}
use Rattle.std.proofs.lemmas.Int.{ints}
use Rattle.std.specs.Int.{int_div_euclid, int_rem_euclid}
use Rattle.jiff_core.specs.Calendar.{IsCivilDate, IsBetween, days_from_civil}
use Rattle.jiff_core.proofs.SignedLemmas.{signed_arith, int_div_euclid-parts, int_rem_euclid-parts, unsigned_abs-parts}
use Rattle.cel_value.specs.Ranges.{local_second}
use Rattle.cel_value.specs.TextFunctions.{shown_at, text_of_parts, timestamp_text}
use Rattle.cel_value.specs.TimestampTexts.{Local, local_at, second_of, local_text, offset_text, nanoseconds_text, IsLocal, IsPrintedTimestamp}
use Rattle.cel_value_times.proofs.CalendarFacts.{year_from_one}
use Rattle.cel_value_times.proofs.TextFunctionLemmas.{printed_function}
use Rattle.kube_server_times.specs.Fields.{year_at, month_at, day_at}
use Rattle.kube_server_times.specs.Texts as texts
use Rattle.kube_server_times.specs.Texts.{local_second_text, moment_text}

-- the second and the nanoseconds of an instant
pub instant_parts : (s : ℤ) (n : ℕ) → n < 1_000_000_000 → (int_div_euclid (s *ℤ pos 1_000_000_000 +ℤ pos n) (pos 1_000_000_000) ≡ s) × (unsigned_abs (int_rem_euclid (s *ℤ pos 1_000_000_000 +ℤ pos n) (pos 1_000_000_000)) ≡ n)
instant_parts s n few =
    let all = s *ℤ pos 1_000_000_000 +ℤ pos n in
    let quotient = int_div_euclid-parts all 1_000_000_000 (omega arith) in
    let rest = int_rem_euclid-parts all 1_000_000_000 (omega arith) in
    let size = unsigned_abs-parts (int_rem_euclid all (pos 1_000_000_000)) in
    let same : int_div_euclid all (pos 1_000_000_000) ≡ s = omega (arith, signed_arith) in
    (same, omega (arith, signed_arith))

-- the text of a timestamp without nanoseconds
pub whole_text : (s o : ℤ) → timestamp_text (s *ℤ pos 1_000_000_000 +ℤ pos 0) o ≡ local_second_text s o ++ offset_text o
unfolding timestamp_text
whole_text s o =
    let parts = instant_parts s 0 (omega arith) in
    ap (λ (z : ℤ). text_of_parts z (unsigned_abs (int_rem_euclid (s *ℤ pos 1_000_000_000 +ℤ pos 0) (pos 1_000_000_000))) o) parts.0
    ∙ ap (λ (n : ℕ). text_of_parts s n o) parts.1

-- the day number of the first second of a day
day_of_first : (day : ℤ) → int_div_euclid (day *ℤ pos 86_400 +ℤ pos 0) (pos 86_400) ≡ day
day_of_first day =
    let quotient = int_div_euclid-parts (day *ℤ pos 86_400 +ℤ pos 0) 86_400 (omega arith) in
    omega (arith, signed_arith)

no_offset : (s : ℤ) → local_second s (pos 0) ≡ s
no_offset s = omega (arith, signed_arith)

-- a text of a date and a time tells the date
date_told : (a b : Local) (t : List ℕ) → local_text a 84 ++ t ≡ local_text b 84 ++ t → (a.year ≡ b.year) × (a.month ≡ b.month) × (a.day ≡ b.day)
date_told a b t e =
    let y0 : 48 + a.year / 100 / 10 ≡ 48 + b.year / 100 / 10 = ap (λ (l : List ℕ). get_or l 0 0) e in
    let y1 : 48 + a.year / 100 % 10 ≡ 48 + b.year / 100 % 10 = ap (λ (l : List ℕ). get_or l 1 0) e in
    let y2 : 48 + a.year % 100 / 10 ≡ 48 + b.year % 100 / 10 = ap (λ (l : List ℕ). get_or l 2 0) e in
    let y3 : 48 + a.year % 100 % 10 ≡ 48 + b.year % 100 % 10 = ap (λ (l : List ℕ). get_or l 3 0) e in
    let m0 : 48 + a.month / 10 ≡ 48 + b.month / 10 = ap (λ (l : List ℕ). get_or l 5 0) e in
    let m1 : 48 + a.month % 10 ≡ 48 + b.month % 10 = ap (λ (l : List ℕ). get_or l 6 0) e in
    let d0 : 48 + a.day / 10 ≡ 48 + b.day / 10 = ap (λ (l : List ℕ). get_or l 8 0) e in
    let d1 : 48 + a.day % 10 ≡ 48 + b.day % 10 = ap (λ (l : List ℕ). get_or l 9 0) e in
    (omega arith, omega arith, omega arith)

-- the date of a day number is the calendar's
civil_parts : (y m d : ℕ) → IsCivilDate (pos y) m d → 1 ≤ y → (year_at (days_from_civil (pos y) m d) ≡ y) × (month_at (days_from_civil (pos y) m d) ≡ m) × (day_at (days_from_civil (pos y) m d) ≡ d)
civil_parts y m d date from =
    let day = days_from_civil (pos y) m d in
    let l : Local = record { year = y; month = m; day = d; hour = 0; minute = 0; second = 0 } in
    let s = day *ℤ pos 86_400 +ℤ pos 0 in
    let is_local : IsLocal l = record { date = date; from_year_one = from; hour = omega arith; minute = omega arith; second = omega arith } in
    let printed : IsPrintedTimestamp (local_text l 84 ++ offset_text (pos 0)) s 0 (pos 0) = record { shown = l; is_local = is_local; instant = no_offset s; spelled = refl } in
    let same : local_text l 84 ++ offset_text (pos 0) ≡ local_second_text s (pos 0) ++ offset_text (pos 0) =
    printed_function (local_text l 84 ++ offset_text (pos 0)) s 0 (pos 0) (omega arith) printed ∙ whole_text s (pos 0) in
    let shown : shown_at (local_second s (pos 0)) ≡ shown_at s = ap shown_at (no_offset s) in
    let told = date_told l (shown_at s) (offset_text (pos 0)) (same ∙ ap (λ (x : Local). local_text x 84 ++ offset_text (pos 0)) shown) in
    let first = day_of_first day in (
      sym (told.0 ∙ ap year_at first),
      sym (told.1 ∙ ap month_at first),
      sym (told.2 ∙ ap day_at first),
    )

-- the same of a date whose year is a signed number
pub date_parts : (y : ℤ) (m d : ℕ) (day : ℤ) → IsCivilDate y m d → days_from_civil y m d ≡ day → neg_ℤ (pos 719_162) ≤ℤ day → (y ≡ pos (year_at day)) × (m ≡ month_at day) × (d ≡ day_at day)
date_parts (pos y) m d day date e low =
    let from : 1 ≤ y = omega (arith, signed_arith, year_from_one (pos y) m d date (subst (λ (z : ℤ). neg_ℤ (pos 719_162) ≤ℤ z) (sym e) low)) in
    let parts = civil_parts y m d date from in
    (sym (ap (λ (n : ℕ). pos n) (sym (ap year_at e) ∙ parts.0)), sym (sym (ap month_at e) ∙ parts.1), sym (sym (ap day_at e) ∙ parts.2))
date_parts (negsuc y) m d day date e low =
    absurd (omega (arith, signed_arith, year_from_one (negsuc y) m d date (subst (λ (z : ℤ). neg_ℤ (pos 719_162) ≤ℤ z) (sym e) low)))

-- the text of a timestamp from its instant
pub moment_is : (s : ℤ) (n : ℕ) (o : ℤ) → n < 1_000_000_000 → moment_text s n o ≡ texts.timestamp_text (s *ℤ pos 1_000_000_000 +ℤ pos n) o
moment_is s n o few =
    let parts = instant_parts s n few in
    sym (ap (λ (z : ℤ). moment_text z (unsigned_abs (int_rem_euclid (s *ℤ pos 1_000_000_000 +ℤ pos n) (pos 1_000_000_000))) o) parts.0
    ∙ ap (λ (k : ℕ). moment_text s k o) parts.1)
