-- The years from 1 on, as day numbers.
use Rattle.std.proofs.Common.{◌≡◌, ℕ, ◌≤◌, inl, inr, refl, arith, rules, ℤ, pos, neg_ℤ, ◌<ℤ◌, ◌≤ℤ◌}
use Rattle.std.proofs.lemmas.Bool.{cases_order}
use Rattle.std.proofs.lemmas.Int.{by_lt_z}
use Rattle.jiff_core.specs.Calendar.{day_count, days_from_civil, IsCivilDate, IsBetween}
use Rattle.jiff_core.proofs.SignedLemmas.{signed_arith}
use Rattle.jiff_core.proofs.MarchLemmas.{day_count-early}
use Rattle.jiff_core.proofs.CalendarLemmas.{days_from_civil-day_count, day_count_bounds, day_count-lt_year, day_count-day_of_year}

-- 0001-01-01
pub first_count : day_count (pos 1) 1 1 ≡ 3_652_791
first_count = day_count-early (pos 1) 10000 1 1 refl (omega arith) (omega arith) (omega arith)

first_date : IsCivilDate (pos 1) 1 1
first_date = search rules

count_from_one : (y m d : ℕ) → IsCivilDate (pos y) m d → 1 ≤ y → 3_652_791 ≤ day_count (pos y) m d
count_from_one y m d date from =
    elim (cases_order 1 y) [
      | inl e ↦ rw (← e) (omega (arith, first_count, day_count-day_of_year (pos 1) m d date.2.0))
      | inr (inl lt) ↦
          let later : pos 1 <ℤ pos y = omega (arith, signed_arith) in
          omega (arith, first_count, day_count-lt_year (pos 1) 1 1 (pos y) m d first_date date.2.0 later)
      | inr (inr gt) ↦ absurd (omega arith)
    ]

-- a date in the years 1 to 9999 has a day number from 0001-01-01 to 9999-12-31
pub days_in_range : (y m d : ℕ) → IsCivilDate (pos y) m d → 1 ≤ y → IsBetween (neg_ℤ (pos 719_162)) (pos 2_932_896) (days_from_civil (pos y) m d)
days_in_range y m d date from =
    let low = count_from_one y m d date from in
    let high = (day_count_bounds (pos y) m d date).1 in
    let count = days_from_civil-day_count (pos y) m d in
    (omega (arith, signed_arith), omega (arith, signed_arith))

-- a date from 0001-01-01 on has a year of at least 1
pub year_from_one : (y : ℤ) (m d : ℕ) → IsCivilDate y m d → neg_ℤ (pos 719_162) ≤ℤ days_from_civil y m d → pos 1 ≤ℤ y
year_from_one y m d date low =
    by_lt_z y (pos 1)
    (λ lt.
    let before = day_count-lt_year y m d (pos 1) 1 1 date (omega arith) lt in
    let count = days_from_civil-day_count y m d in
    absurd (omega (arith, signed_arith, first_count)))
    (λ le. le)
