-- The laws that concern the definitions only.
use Rattle.std.proofs.Common.{◌≡◌, ℕ, ◌+◌, ◌*◌, ◌<◌, List, [], ◌∷◌, ◌++◌, length, subst, inl, inr, refl, sym, ap, ◌∙◌, arith, ℤ, pos, neg_ℤ, ◌+ℤ◌, ◌*ℤ◌}
use Rattle.jiff_core.specs.declared.civil.date.Date.{Date}
use Rattle.jiff_core.specs.Calendar.{days_from_civil}
use Rattle.jiff_core.proofs.SignedLemmas.{signed_arith}
use Rattle.jiff_core.proofs.CalendarLemmas.{days_from_civil-day_count}
use Rattle.jiff_core.proofs.DateLemmas.{epoch_day_injective, days_from_civil-max}
use Rattle.std.specs.List.{AllByRecursion, flat_map}
use Rattle.cel_value_times.specs.DurationTexts.{Amount, amount_text, IsAmount, amount_nanoseconds, total_nanoseconds, AreAmounts, IsMagnitude, IsDurationText, forward, backward}
use Rattle.cel_value_times.specs.Fronts.{amount_at}
use Rattle.cel_value_times.proofs.AmountLemmas.{amount_only}
use Rattle.cel_value_times.proofs.SumLemmas.{amount_begins, seam, nothing_only, less_amounts, same_read, no_second_sign, bare_zero_only}
use Rattle.cel_value_times.specs.TimestampTexts.{Local, IsLocal, second_of, local_text, nanoseconds_text, offset_text, IsPrintedTimestamp, IsTimestampText}
use Rattle.cel_value_times.specs.TimestampFronts.{Parts}
use Rattle.cel_value_times.proofs.CalendarFacts.{first_count}
use Rattle.cel_value_times.proofs.ReadLemmas.{parts_only, same_some}

-- the seconds in range are those of the years 1 to 9999
pub first_second : days_from_civil (pos 1) 1 1 *ℤ pos 86_400 ≡ neg_ℤ (pos 62_135_596_800)
first_second = omega (arith, signed_arith, days_from_civil-day_count (pos 1) 1 1, first_count)

pub last_second : days_from_civil (pos 9999) 12 31 *ℤ pos 86_400 +ℤ pos 86_399 ≡ pos 253_402_300_799
last_second = omega (arith, signed_arith, days_from_civil-max)

-- a second has one local date and time
abbrev calendar_date : (l : Local) → IsLocal l → Date
calendar_date l h = record { year = pos l.year; month = l.month; day = l.day; year_in = h.date.0; month_in = h.date.1; day_in = h.date.2 }

clock_of : Local → ℕ
clock_of l = 3600 * l.hour + 60 * l.minute + l.second

same_parts : (x y : ℤ) (a b : ℕ) → a < 86_400 → b < 86_400 → x *ℤ pos 86_400 +ℤ pos a ≡ y *ℤ pos 86_400 +ℤ pos b → (x ≡ y) × (a ≡ b)
same_parts x y a b p q e = (omega (arith, signed_arith), omega (arith, signed_arith))

same_pos : (a b : ℕ) → pos a ≡ pos b → a ≡ b
same_pos a b e = cc

pub same_text : (a b : Local) → a.year ≡ b.year → a.month ≡ b.month → a.day ≡ b.day → a.hour ≡ b.hour → a.minute ≡ b.minute → a.second ≡ b.second → local_text a 84 ≡ local_text b 84
same_text a b y m d h i s = rw (y, m, d, h, i, s) refl

pub one_local : (a b : Local) → IsLocal a → IsLocal b → second_of a ≡ second_of b → local_text a 84 ≡ local_text b 84
one_local a b h k e =
    let ah = h.hour in
    let am = h.minute in
    let as_ = h.second in
    let bh = k.hour in
    let bm = k.minute in
    let bs = k.second in
    let parts = same_parts (days_from_civil (pos a.year) a.month a.day) (days_from_civil (pos b.year) b.month b.day) (3600 * a.hour + 60 * a.minute + a.second) (3600 * b.hour + 60 * b.minute + b.second) (omega arith) (omega arith) e in
    let date = epoch_day_injective (calendar_date a h) (calendar_date b k) (parts.0) in
    let clock = parts.1 in
    same_text a b (same_pos a.year b.year date.0) date.1 date.2 (omega arith) (omega arith) (omega arith)

pub one_printed : (a b : List ℕ) (instant : ℤ) (nanoseconds : ℕ) (offset : ℤ) → IsPrintedTimestamp a instant nanoseconds offset → IsPrintedTimestamp b instant nanoseconds offset → a ≡ b
one_printed a b instant nanoseconds offset h k =
    h.spelled ∙ (ap (λ (t : List ℕ). t ++ (nanoseconds_text nanoseconds ++ offset_text offset)) (one_local h.shown k.shown h.is_local k.is_local (sym h.instant ∙ k.instant)) ∙ sym k.spelled)

-- a text denotes at most one timestamp
pub one_meaning : (text : List ℕ) (a b : ℤ) (m n : ℕ) (o p : ℤ) → IsTimestampText text a m o → IsTimestampText text b n p → (a ≡ b) × (m ≡ n) × (o ≡ p)
one_meaning text a b m n o p h k =
    let x : Parts = record { second = a; nanoseconds = m; offset = o } in
    let y : Parts = record { second = b; nanoseconds = n; offset = p } in
    let same = same_some x y (sym (parts_only text a m o h) ∙ parts_only text b n p k) in
    (ap (λ (z : Parts). z.second) same, ap (λ (z : Parts). z.nanoseconds) same, ap (λ (z : Parts). z.offset) same)

-- amounts have one sum
one_sum : (amounts : List Amount) (text : List ℕ) (n : ℕ) → AllByRecursion IsAmount amounts → text ≡ flat_map amount_text amounts → AreAmounts text n → total_nanoseconds amounts ≡ n
one_sum [] text n h e k = sym (nothing_only n (subst (λ (t : List ℕ). AreAmounts t n) e k))
one_sum (a ∷ rest) text n h e k =
    let later = flat_map amount_text rest in
    let begins = amount_begins a later h.0 in
    let long : length text ≡ length (begins.first ∷ begins.more) = ap length (e ∙ begins.spelled) in
    let less = less_amounts text n k (omega arith) in
    let mine = ap amount_at e ∙ amount_only a later h.0 (seam rest h.1) in
    let same = same_read (amount_nanoseconds a) less.first later less.later text mine less.read in
    let more = one_sum rest later less.rest h.1 refl (subst (λ (t : List ℕ). AreAmounts t less.rest) (sym same.1) less.more) in
    let total = less.total in
    let first = same.0 in
    omega arith

one_magnitude : (text : List ℕ) (m n : ℕ) → IsMagnitude text m → IsMagnitude text n → m ≡ n
one_magnitude text m n (inl h) k = h.1 ∙ sym (bare_zero_only n (subst (λ (t : List ℕ). IsMagnitude t n) h.0 k))
one_magnitude text m n (inr h) (inl k) = bare_zero_only m (subst (λ (t : List ℕ). IsMagnitude t m) k.0 (inr h)) ∙ sym k.1
one_magnitude text m n (inr h) (inr k) = h.1.total ∙ one_sum h.1.amounts text n h.1.each h.1.spelled k.1

same_rest : (a b : List ℕ) → 45 ∷ a ≡ 45 ∷ b → a ≡ b
same_rest a b e = cc

-- a text denotes at most one duration
pub one_duration : (text : List ℕ) (y z : ℤ) → IsDurationText text y → IsDurationText text z → y ≡ z
one_duration text y z (forward m h e f) (forward n k g i) = e ∙ (ap (λ (x : ℕ). pos x) (one_magnitude text m n h k) ∙ sym g)
one_duration text y z (forward m h e f) (backward rest n s k g i) = absurd (no_second_sign rest m (subst (λ (t : List ℕ). IsMagnitude t m) s h))
one_duration text y z (backward rest n s k g i) (forward m h e f) = absurd (no_second_sign rest m (subst (λ (t : List ℕ). IsMagnitude t m) s h))
one_duration text y z (backward rest m s h e f) (backward other n r k g i) =
    let same = same_rest rest other (sym s ∙ r) in
    e ∙ (ap (λ (x : ℕ). neg_ℤ (pos x)) (one_magnitude other m n (subst (λ (t : List ℕ). IsMagnitude t m) same h) k) ∙ sym g)
