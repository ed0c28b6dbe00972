-- A printed text denotes what was printed.
use Rattle.std.proofs.Common.{◌≡◌, ℕ, zero, suc, ◌+◌, ◌-◌, ◌*◌, ◌/◌, ◌%◌, ◌^◌, ◌<◌, ◌≤◌, ◌==◌, nat_lt, Bool, true, false, cond, List, [], ◌∷◌, ◌++◌, length, Option, Some, None, refl, sym, ap, subst, ◌∙◌, arith, inl, inr, append_assoc, ℤ, pos, negsuc, ◌+ℤ◌, ◌*ℤ◌}
use Rattle.std.specs.Prelude.{codes}
use Rattle.std.proofs.Math.Nat.{pow-suc, mul-div_cancel, div-div-eq-div-mul}
use Rattle.std.proofs.lemmas.Bool.{eqb-true, eqb-false, ltb-true, and_from}
use Rattle.std.proofs.lemmas.Fmt.{digits_decimal, digits_value-decimal, decimal_nonempty}
use Rattle.std.proofs.lemmas.Int.{ints}
use Rattle.std.proofs.lemmas.List.{append-nil}
use Rattle.std.proofs.lemmas.Nat.{div-add-mod', div_below, mod_below}
use Rattle.std.specs.Fmt.{decimal}
use Rattle.std.specs.Str.{all_ascii_digits}
use Rattle.jiff_core.specs.Calendar.{IsCivilDate, days_from_civil}
use Rattle.cel_value_times.specs.Ranges.{IsDuration, IsSecond, IsOffset, local_second}
use Rattle.cel_value_times.specs.Digits.{number, cut_part, digits_after_dot, fraction_text, places_text, decimals_text}
use Rattle.cel_value_times.specs.DurationTexts.{IsUnit, hour, minute, second, millisecond, micro_sign, nanosecond, Amount, amount_text, IsAmount, amount_nanoseconds, AreAmounts, IsMagnitude, IsDurationText, forward, backward, hours_text, minutes_text, seconds_text, small_text, magnitude_text, duration_text}
use Rattle.cel_value_times.specs.TimestampTexts.{three_digits, local_text, local_at, IsOffsetText, ahead, behind, IsFraction, IsTimestampText, nanoseconds_text, offset_text, IsPrintedTimestamp}
use Rattle.cel_value_times.proofs.DigitLemmas.{numerals, pow_positive, cut_part_step}
use Rattle.cel_value_times.proofs.ReadLemmas.{digit_from}
use Rattle.cel_value_times.proofs.SumLemmas.{nothing, nothing_only}

-- the decimal places, as they are parsed
cut_part_none : (parts : ℕ) → cut_part parts [] ≡ 0
cut_part_none parts = omega arith

places_sum : (c p n : ℕ) → ((c * 10 ^ suc p) * (n / 10 ^ p) + c * 10 * (n % 10 ^ p)) / 10 ≡ c * n
places_sum c p n =
    let power = 10 ^ p in
    let q = n / 10 ^ p in
    let r = n % 10 ^ p in
    let whole : q * power + r ≡ n = div-add-mod' n power in
    let regrouped : (c * (power * 10)) * q + c * 10 * r ≡ (c * (q * power + r)) * 10 = omega arith in
    ap (λ (t : ℕ). ((c * t) * q + c * 10 * r) / 10) (pow-suc 10 p)
    ∙ (ap (λ (t : ℕ). t / 10) regrouped ∙ (mul-div_cancel (c * (q * power + r)) (omega arith) ∙ ap (λ (t : ℕ). c * t) whole))

places_more : (p c n : ℕ) → cut_part ((c * 10) * 10 ^ p) (places_text p (n % 10 ^ p)) ≡ c * 10 * (n % 10 ^ p) → cut_part (c * 10 ^ suc p) ((48 + n / 10 ^ p) ∷ places_text p (n % 10 ^ p)) ≡ c * n
places_more p c n more =
    let same : c * 10 ^ suc p ≡ c * 10 * 10 ^ p = ap (λ (t : ℕ). c * t) (pow-suc 10 p) ∙ regroup (10 ^ p) in
    let digit : 48 + n / 10 ^ p - 48 ≡ n / 10 ^ p = omega arith in
    cut_part_step (c * 10 ^ suc p) (48 + n / 10 ^ p) (places_text p (n % 10 ^ p))
    ∙ (ap (λ (t : ℕ). ((c * 10 ^ suc p) * t + cut_part (c * 10 ^ suc p) (places_text p (n % 10 ^ p))) / 10) digit
    ∙ (ap (λ (t : ℕ). ((c * 10 ^ suc p) * (n / 10 ^ p) + t) / 10) (ap (λ (t : ℕ). cut_part t (places_text p (n % 10 ^ p))) same ∙ more)
    ∙ places_sum c p n))
  where
    regroup : (x : ℕ) → c * (x * 10) ≡ c * 10 * x
    regroup x = omega arith

places_by_test : (p c n : ℕ) (b : Bool) → (n == 0) ≡ b → cut_part ((c * 10) * 10 ^ p) (places_text p (n % 10 ^ p)) ≡ c * 10 * (n % 10 ^ p) → cut_part (c * 10 ^ suc p) (cond b [] ((48 + n / 10 ^ p) ∷ places_text p (n % 10 ^ p))) ≡ c * n
places_by_test p c n true e more = let none : n ≡ 0 = eqb-true n 0 e in cut_part_none (c * 10 ^ suc p) ∙ rw none (omega arith)
places_by_test p c n false e more = places_more p c n more

pub places_value : (p c n : ℕ) → n < 10 ^ p → cut_part (c * 10 ^ p) (places_text p n) ≡ c * n
unfolding places_text
places_value zero c n few = let none : n ≡ 0 = omega arith in cut_part_none (c * 10 ^ 0) ∙ rw none (omega arith)
places_value (suc p) c n few = places_by_test p c n (n == 0) refl (places_value p (c * 10) (n % 10 ^ p) (mod_below n (10 ^ p) (pow_positive p)))

digits_by_test : (p n : ℕ) (b : Bool) → n < 10 ^ suc p → all_ascii_digits (places_text p (n % 10 ^ p)) ≡ true → all_ascii_digits (cond b [] ((48 + n / 10 ^ p) ∷ places_text p (n % 10 ^ p))) ≡ true
digits_by_test p n true few more = refl
digits_by_test p n false few more =
    let turned : 10 ^ suc p ≡ 10 * 10 ^ p = pow-suc 10 p ∙ turn (10 ^ p) in
    let digit = div_below n (10 ^ p) 10 (pow_positive p) (omega arith) in
    and_from _ _ (digit_from (48 + n / 10 ^ p) (omega arith) (omega arith)) more
  where
    turn : (x : ℕ) → x * 10 ≡ 10 * x
    turn x = omega arith

pub places_digits : (p n : ℕ) → n < 10 ^ p → all_ascii_digits (places_text p n) ≡ true
unfolding places_text
places_digits zero n few = refl
places_digits (suc p) n few = digits_by_test p n (n == 0) few (places_digits p (n % 10 ^ p) (mod_below n (10 ^ p) (pow_positive p)))

-- a fraction with p places
fraction_of : ℕ → ℕ → Option (List ℕ)
fraction_of p r = cond (r == 0) None (Some (places_text p r))

record IsFractionOf (p r : ℕ) (fraction : Option (List ℕ)) : Type 0 where
  spelled : decimals_text p r ≡ fraction_text fraction
  digits : all_ascii_digits (digits_after_dot fraction) ≡ true
  value : cut_part (10 ^ p) (digits_after_dot fraction) ≡ r

fraction_is : (p r : ℕ) → r < 10 ^ p → (f : Option (List ℕ)) × IsFractionOf p r f
fraction_is p r few = by_test (r == 0) refl where
  one : (x : ℕ) → 1 * x ≡ x
  one x = omega arith

  by_test : (b : Bool) → (r == 0) ≡ b → (f : Option (List ℕ)) × IsFractionOf p r f
  by_test true e =
      let none : r ≡ 0 = eqb-true r 0 e in
      (None, record { spelled = rw e refl; digits = refl; value = cut_part_none (10 ^ p) ∙ sym none })
  by_test false e =
      let value = places_value p 1 r few in
      (Some (places_text p r), record { spelled = rw e refl; digits = places_digits p r few; value = ap (λ (t : ℕ). cut_part t (places_text p r)) (sym (one (10 ^ p))) ∙ (value ∙ one r) })

-- an amount in front of others
with_first : (a : Amount) (text : List ℕ) (n : ℕ) → IsAmount a → AreAmounts text n → AreAmounts (amount_text a ++ text) (amount_nanoseconds a + n)
with_first a text n h rest = record {
  amounts = a ∷ rest.amounts;
  each = (h, rest.each);
  spelled = ap (λ (t : List ℕ). amount_text a ++ t) rest.spelled;
  total = ap (λ (t : ℕ). amount_nanoseconds a + t) rest.total;
}

decimal_amount : (q : ℕ) (fraction : Option (List ℕ)) (name text : List ℕ) (unit part n : ℕ) → q < 2 ^ 64 → all_ascii_digits (digits_after_dot fraction) ≡ true → IsUnit name unit → cut_part unit (digits_after_dot fraction) ≡ part → AreAmounts text n → AreAmounts ((decimal q ++ (fraction_text fraction ++ name)) ++ text) (q * unit + part + n)
decimal_amount q fraction name text unit part n fits digits is_unit value rest =
    let some = decimal_nonempty q fits in
    let a : Amount = record { whole = decimal q; fraction = fraction; name = name; unit = unit } in
    let proper : IsAmount a = record { whole = digits_decimal numerals q fits; fraction = digits; some_digit = omega arith; unit = is_unit } in
    let total : amount_nanoseconds a ≡ q * unit + part = ap (λ (t : ℕ). t * unit + cut_part unit (digits_after_dot fraction)) (digits_value-decimal numerals q fits) ∙ ap (λ (t : ℕ). q * unit + t) value in
    subst (λ (t : ℕ). AreAmounts ((decimal q ++ (fraction_text fraction ++ name)) ++ text) (t + n)) total (with_first a text n proper rest)

-- an amount of whole units, and one with decimal places at the end of the text
whole_amount : (q : ℕ) (name text : List ℕ) (unit n : ℕ) → q < 2 ^ 64 → IsUnit name unit → AreAmounts text n → AreAmounts ((decimal q ++ name) ++ text) (q * unit + n)
whole_amount q name text unit n fits is_unit rest =
    let sum : q * unit + 0 + n ≡ q * unit + n = omega arith in
    subst (AreAmounts ((decimal q ++ name) ++ text)) sum (decimal_amount q None name text unit 0 n fits refl is_unit (cut_part_none unit) rest)

last_amount : (q p r : ℕ) (name : List ℕ) → q < 2 ^ 64 → r < 10 ^ p → IsUnit name (10 ^ p) → AreAmounts (decimal q ++ (decimals_text p r ++ name)) (q * 10 ^ p + r)
last_amount q p r name fits few is_unit =
    let f = fraction_is p r few in
    let sum : q * 10 ^ p + r + 0 ≡ q * 10 ^ p + r = omega arith in
    let all = decimal_amount q f.0 name [] (10 ^ p) r 0 fits f.1.digits is_unit f.1.value nothing in
    let flat : (decimal q ++ (fraction_text f.0 ++ name)) ++ [] ≡ decimal q ++ (decimals_text p r ++ name) = append-nil _ ∙ ap (λ (t : List ℕ). decimal q ++ (t ++ name)) (sym f.1.spelled) in
    subst (λ (t : List ℕ). AreAmounts t (q * 10 ^ p + r)) flat (subst (AreAmounts ((decimal q ++ (fraction_text f.0 ++ name)) ++ [])) sum all)

-- below one second
small_amounts : (n : ℕ) → n < 1_000_000_000 → AreAmounts (small_text n) n
small_amounts n few = by_test (nat_lt n 1_000) refl where
  micro_or_milli : (b : Bool) → nat_lt n 1_000_000 ≡ b → AreAmounts (cond b (decimal (n / 1_000) ++ (decimals_text 3 (n % 1_000) ++ 0xc2 ∷ 0xb5 ∷ codes "s")) (decimal (n / 1_000_000) ++ (decimals_text 6 (n % 1_000_000) ++ codes "ms"))) n
  micro_or_milli true e =
      let sum : n / 1_000 * 1_000 + n % 1_000 ≡ n = omega arith in
      subst (AreAmounts _) sum (last_amount (n / 1_000) 3 (n % 1_000) (0xc2 ∷ 0xb5 ∷ codes "s") (omega arith) (omega arith) (micro_sign refl refl))
  micro_or_milli false e =
      let sum : n / 1_000_000 * 1_000_000 + n % 1_000_000 ≡ n = omega arith in
      subst (AreAmounts _) sum (last_amount (n / 1_000_000) 6 (n % 1_000_000) (codes "ms") (omega arith) (omega arith) (millisecond refl refl))

  by_test : (b : Bool) → nat_lt n 1_000 ≡ b → AreAmounts (cond b (decimal n ++ codes "ns") (cond (nat_lt n 1_000_000) (decimal (n / 1_000) ++ (decimals_text 3 (n % 1_000) ++ 0xc2 ∷ 0xb5 ∷ codes "s")) (decimal (n / 1_000_000) ++ (decimals_text 6 (n % 1_000_000) ++ codes "ms")))) n
  by_test true e =
      let sum : n * 1 + 0 ≡ n = omega arith in
      subst (λ (t : List ℕ). AreAmounts t n) (append-nil _) (subst (AreAmounts _) sum (whole_amount n (codes "ns") [] 1 0 (omega arith) (nanosecond refl refl) nothing))
  by_test false e = micro_or_milli (nat_lt n 1_000_000) refl

-- from one second on
seconds_amounts : (n : ℕ) → AreAmounts (seconds_text n) (n / 1_000_000_000 % 60 * 1_000_000_000 + n % 1_000_000_000)
seconds_amounts n = last_amount (n / 1_000_000_000 % 60) 9 (n % 1_000_000_000) (codes "s") (omega arith) (omega arith) (second refl refl)

-- the hours, minutes and seconds add up to the whole
abbrev parts_of_clock : ℕ → ℕ
parts_of_clock n = n / 1_000_000_000 % 60 * 1_000_000_000 + n % 1_000_000_000

minutes_are : (n : ℕ) (b : Bool) → nat_lt n 60_000_000_000 ≡ b → AreAmounts (cond b [] (decimal (n / 60_000_000_000 % 60) ++ codes "m") ++ seconds_text n) (n % 3_600_000_000_000)
minutes_are n true e =
    let few = ltb-true n 60_000_000_000 e in
    let sum : parts_of_clock n ≡ n % 3_600_000_000_000 = omega arith in
    subst (AreAmounts (seconds_text n)) sum (seconds_amounts n)
minutes_are n false e =
    let minutes : n / 1_000_000_000 / 60 ≡ n / 60_000_000_000 = div-div-eq-div-mul n 1_000_000_000 60 in
    let hours : n / 60_000_000_000 / 60 ≡ n / 3_600_000_000_000 = div-div-eq-div-mul n 60_000_000_000 60 in
    let sum : n / 60_000_000_000 % 60 * 60_000_000_000 + parts_of_clock n ≡ n % 3_600_000_000_000 = omega arith in
    subst (AreAmounts _) sum (whole_amount (n / 60_000_000_000 % 60) (codes "m") (seconds_text n) 60_000_000_000 (parts_of_clock n) (omega arith) (minute refl refl) (seconds_amounts n))

hours_are : (n : ℕ) (b : Bool) → n < 2 ^ 64 → nat_lt n 3_600_000_000_000 ≡ b → AreAmounts (cond b [] (decimal (n / 3_600_000_000_000) ++ codes "h") ++ (minutes_text n ++ seconds_text n)) n
hours_are n true fits e =
    let few = ltb-true n 3_600_000_000_000 e in
    let sum : n % 3_600_000_000_000 ≡ n = omega arith in
    subst (AreAmounts (minutes_text n ++ seconds_text n)) sum (minutes_are n (nat_lt n 60_000_000_000) refl)
hours_are n false fits e =
    let sum : n / 3_600_000_000_000 * 3_600_000_000_000 + n % 3_600_000_000_000 ≡ n = omega arith in
    subst (AreAmounts _) sum (whole_amount (n / 3_600_000_000_000) (codes "h") (minutes_text n ++ seconds_text n) 3_600_000_000_000 (n % 3_600_000_000_000) (omega arith) (hour refl refl) (minutes_are n (nat_lt n 60_000_000_000) refl))

magnitude_amounts : (n : ℕ) (b d : Bool) → n < 2 ^ 64 → (n == 0) ≡ b → nat_lt n 1_000_000_000 ≡ d → AreAmounts (cond b (codes "0s") (cond d (small_text n) (hours_text n ++ (minutes_text n ++ seconds_text n)))) n
magnitude_amounts n true d fits e f =
    let none : n ≡ 0 = eqb-true n 0 e in
    let zero_seconds : Amount = record { whole = codes "0"; fraction = None; name = codes "s"; unit = 1_000_000_000 } in
    let proper : IsAmount zero_seconds = record { whole = refl; fraction = refl; some_digit = omega arith; unit = second refl refl } in
    subst (AreAmounts (codes "0s")) (sym none) (with_first zero_seconds [] 0 proper nothing)
magnitude_amounts n false true fits e f = small_amounts n (ltb-true n 1_000_000_000 f)
magnitude_amounts n false false fits e f = hours_are n (nat_lt n 3_600_000_000_000) fits refl

some_text : (text : List ℕ) (n : ℕ) → AreAmounts text n → 0 < n → 0 < length text
some_text [] n h some = let none = nothing_only n h in absurd (omega arith)
some_text (c ∷ cs) n h some = omega arith

pub magnitude_is : (n : ℕ) → n < 2 ^ 64 → IsMagnitude (magnitude_text n) n
magnitude_is n fits = inr (by_test (n == 0) refl, magnitude_amounts n (n == 0) (nat_lt n 1_000_000_000) fits refl refl) where
  by_test : (b : Bool) → (n == 0) ≡ b → 0 < length (cond b (codes "0s") (cond (nat_lt n 1_000_000_000) (small_text n) (hours_text n ++ (minutes_text n ++ seconds_text n))))
  by_test true e = omega arith
  by_test false e =
      let some : n ≡ 0 → ⊥ = eqb-false n 0 e in
      some_text _ n (magnitude_amounts n false (nat_lt n 1_000_000_000) fits e refl) (omega (arith, some))

-- the printed text of a duration denotes that duration
pub duration_round : (n : ℤ) → IsDuration n → IsDurationText (duration_text n) n
duration_round (pos n) fits = forward n (magnitude_is n (omega (arith, ints))) refl fits
duration_round (negsuc n) fits = backward (magnitude_text (suc n)) (suc n) refl (magnitude_is (suc n) (omega (arith, ints))) refl fits

-- the nanoseconds of a printed timestamp
pub record PrintedPart (n : ℕ) : Type 0 where
  pub fraction : Option (List ℕ)
  pub spelled : nanoseconds_text n ≡ fraction_text fraction
  pub is_fraction : IsFraction fraction
  pub value : n ≡ cut_part 1_000_000_000 (digits_after_dot fraction)

three_are_digits : (n : ℕ) (rest : List ℕ) → n < 1_000 → all_ascii_digits rest ≡ true → all_ascii_digits (three_digits n ++ rest) ≡ true
three_are_digits n rest few h =
    and_from _ _ (digit_from (48 + n / 100) (omega arith) (omega arith))
    (and_from _ _ (digit_from (48 + n % 100 / 10) (omega arith) (omega arith))
    (and_from _ _ (digit_from (48 + n % 100 % 10) (omega arith) (omega arith)) h))

three_number : (n : ℕ) (rest : List ℕ) → number (three_digits n ++ rest) ≡ n * 10 ^ length rest + number rest
three_number n rest =
    let power = 10 ^ length rest in
    let one = pow-suc 10 (length rest) in
    let two = pow-suc 10 (suc (length rest)) in
    let a : 48 + n / 100 - 48 ≡ n / 100 = omega arith in
    let b : 48 + n % 100 / 10 - 48 ≡ n % 100 / 10 = omega arith in
    let d : 48 + n % 100 % 10 - 48 ≡ n % 100 % 10 = omega arith in
    let whole : n / 100 * 100 + n % 100 / 10 * 10 + n % 100 % 10 ≡ n = omega arith in
    rw (a, b, d, two, one) (regroup (n / 100) (n % 100 / 10) (n % 100 % 10) power (number rest) ∙ ap (λ (t : ℕ). t * power + number rest) whole)
  where
    regroup : (a b d x rest : ℕ) → a * (x * 10 * 10) + (b * (x * 10) + (d * x + rest)) ≡ (a * 100 + b * 10 + d) * x + rest
    regroup a b d x rest = omega arith

pub printed_part : (n : ℕ) → n < 1_000_000_000 → PrintedPart n
printed_part n few = by_none (n == 0) refl where
  by_micro : (b : Bool) → (n == 0) ≡ false → (n % 1_000_000 == 0) ≡ false → (n % 1_000 == 0) ≡ b → PrintedPart n
  by_micro true e f g =
      let none : n % 1_000 ≡ 0 = eqb-true (n % 1_000) 0 g in
      let high = three_number (n / 1_000_000) (three_digits (n / 1_000 % 1_000)) in
      let low = three_number (n / 1_000 % 1_000) [] in
      record {
        fraction = Some (three_digits (n / 1_000_000) ++ three_digits (n / 1_000 % 1_000));
        spelled = rw (e, f, g) refl;
        is_fraction = (omega arith, three_are_digits (n / 1_000_000) (three_digits (n / 1_000 % 1_000)) (omega arith) (three_are_digits (n / 1_000 % 1_000) [] (omega arith) refl));
        value = rw high (rw low (omega arith));
      }
  by_micro false e f g =
      let high = three_number (n / 1_000_000) (three_digits (n / 1_000 % 1_000) ++ three_digits (n % 1_000)) in
      let middle = three_number (n / 1_000 % 1_000) (three_digits (n % 1_000)) in
      let low = three_number (n % 1_000) [] in
      record {
        fraction = Some (three_digits (n / 1_000_000) ++ (three_digits (n / 1_000 % 1_000) ++ three_digits (n % 1_000)));
        spelled = rw (e, f, g) refl;
        is_fraction = (omega arith, three_are_digits (n / 1_000_000) (three_digits (n / 1_000 % 1_000) ++ three_digits (n % 1_000)) (omega arith) (three_are_digits (n / 1_000 % 1_000) (three_digits (n % 1_000)) (omega arith) (three_are_digits (n % 1_000) [] (omega arith) refl)));
        value = rw high (rw middle (rw low (omega arith)));
      }

  by_milli : (b : Bool) → (n == 0) ≡ false → (n % 1_000_000 == 0) ≡ b → PrintedPart n
  by_milli true e f =
      let none : n % 1_000_000 ≡ 0 = eqb-true (n % 1_000_000) 0 f in
      let low = three_number (n / 1_000_000) [] in
      record {
        fraction = Some (three_digits (n / 1_000_000));
        spelled = rw (e, f) refl;
        is_fraction = (omega arith, three_are_digits (n / 1_000_000) [] (omega arith) refl);
        value = rw low (omega arith);
      }
  by_milli false e f = by_micro (n % 1_000 == 0) e f refl

  by_none : (b : Bool) → (n == 0) ≡ b → PrintedPart n
  by_none true e = record { fraction = None; spelled = rw e refl; is_fraction = tt; value = eqb-true n 0 e }
  by_none false e = by_milli (n % 1_000_000 == 0) e refl

printed_zone : (z : ℤ) → IsOffset z → IsOffsetText (offset_text z) z
printed_zone (pos n) h = ahead n (omega (arith, ints, h.1)) refl refl
printed_zone (negsuc n) h = behind (suc n) (omega (arith, ints, h.0)) refl refl

-- the printed text of a timestamp denotes that timestamp
pub timestamp_round : (text : List ℕ) (instant : ℤ) (nanoseconds : ℕ) (offset : ℤ) → nanoseconds < 1_000_000_000 → IsSecond instant → IsOffset offset → IsPrintedTimestamp text instant nanoseconds offset → IsTimestampText text instant nanoseconds offset
timestamp_round text instant nanoseconds offset few range zone h =
    let part = printed_part nanoseconds few in
    record {
      shown = h.shown;
      letter = 84;
      fraction = part.fraction;
      zone = offset_text offset;
      spelled = h.spelled ∙ ap (λ (t : List ℕ). local_text h.shown 84 ++ (t ++ offset_text offset)) part.spelled;
      is_local = h.is_local;
      is_letter = inl refl;
      is_fraction = part.is_fraction;
      is_zone = printed_zone offset zone;
      instant = h.instant;
      cut = part.value;
      in_range = range;
    }

-- the text that is written of a local time is the printed text
pub printed_is : (written : List ℕ) (instant : ℤ) (nanoseconds : ℕ) (offset number : ℤ) (year month day second_of_day : ℕ) → IsCivilDate (pos year) month day → 1 ≤ year → days_from_civil (pos year) month day ≡ number → second_of_day < 86_400 → number *ℤ pos 86_400 +ℤ pos second_of_day ≡ local_second instant offset → written ≡ (([] ++ local_text (local_at year month day second_of_day) 84) ++ nanoseconds_text nanoseconds) ++ offset_text offset → IsPrintedTimestamp written instant nanoseconds offset
printed_is written instant nanoseconds offset number year month day second_of_day date from is_number few whole spelled =
    let total : 3600 * (second_of_day / 3600) + 60 * (second_of_day / 60 % 60) + second_of_day % 60 ≡ second_of_day = clock_whole second_of_day few in
    record {
      shown = local_at year month day second_of_day;
      is_local = record { date = date; from_year_one = from; hour = omega arith; minute = omega arith; second = omega arith };
      instant = sym whole ∙ (ap (λ (z : ℤ). z *ℤ pos 86_400 +ℤ pos second_of_day) (sym is_number) ∙ ap (λ (n : ℕ). days_from_civil (pos year) month day *ℤ pos 86_400 +ℤ pos n) (sym total));
      spelled = spelled ∙ append_assoc (local_text (local_at year month day second_of_day) 84) (nanoseconds_text nanoseconds) (offset_text offset);
    }
  where
    clock_whole : (s : ℕ) → s < 86_400 → 3600 * (s / 3600) + 60 * (s / 60 % 60) + s % 60 ≡ s
    clock_whole s few =
        let hours : s / 60 / 60 ≡ s / 3600 = div-div-eq-div-mul s 60 60 in
        omega arith
