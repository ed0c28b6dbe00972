-- Sequences of amounts, and the loop that adds them up.
use Rattle.std.proofs.Common.{◌≡◌, ℕ, ◌+◌, ◌^◌, ◌<◌, ◌≤◌, ◌==◌, true, false, List, [], ◌∷◌, ◌++◌, length, Option, Some, None, refl, sym, ap, subst, ◌∙◌, arith, ℤ, pos, neg_ℤ, inl, inr}
use Rattle.std.specs.Prelude.{codes}
use Rattle.std.proofs.lemmas.Bool.{ne_eqb}
use Rattle.std.specs.List.{AllByRecursion, flat_map}
use Rattle.std.specs.Str.{all_ascii_digits}
use Rattle.cel_value_times.specs.Digits.{digits_after_dot, fraction_text}
use Rattle.std.proofs.lemmas.Int.{ints}
use Rattle.cel_value_times.specs.Ranges.{IsDuration}
use Rattle.cel_value_times.specs.DurationTexts.{IsDurationText, forward, backward, Amount, amount_text, IsAmount, amount_nanoseconds, total_nanoseconds, AreAmounts, IsMagnitude}
use Rattle.cel_value_times.specs.Fronts.{after, amount_at}
use Rattle.cel_value_times.proofs.DigitLemmas.{first_digit, digit_below}
use Rattle.cel_value_times.proofs.AmountLemmas.{amount_found, amount_only, amount_shorter, after_found}

-- the text starts with a digit or a dot
pub record BeginsWithNumber (text : List ℕ) : Type 0 where
  pub first : ℕ
  pub more : List ℕ
  pub spelled : text ≡ first ∷ more
  pub above : 45 < first
  pub below : first < 58

first_byte : (whole : List ℕ) (fraction : Option (List ℕ)) (name later : List ℕ) → all_ascii_digits whole ≡ true → 0 < length whole + length (digits_after_dot fraction) → BeginsWithNumber ((whole ++ (fraction_text fraction ++ name)) ++ later)
first_byte (c ∷ cs) fraction name later h some =
    let range = digit_below c (first_digit c cs h).0 in
    record { first = c; more = (cs ++ (fraction_text fraction ++ name)) ++ later; spelled = refl; above = omega arith; below = omega arith }
first_byte [] (Some digits) name later h some = record { first = 46; more = (digits ++ name) ++ later; spelled = refl; above = omega arith; below = omega arith }
first_byte [] None name later h some = absurd (omega arith)

pub amount_begins : (a : Amount) (later : List ℕ) → IsAmount a → BeginsWithNumber (amount_text a ++ later)
amount_begins a later h = first_byte a.whole a.fraction a.name later h.whole h.some_digit

number_begins_no_s : (text : List ℕ) → BeginsWithNumber text → after 115 text ≡ None
number_begins_no_s text h =
    let below = h.below in
    let no : (h.first == 115) ≡ false = ne_eqb h.first 115 (λ e. omega arith) in
    rw (h.spelled, no) refl

-- a unit's name can't continue into the next amount
pub seam : (amounts : List Amount) → AllByRecursion IsAmount amounts → after 115 (flat_map amount_text amounts) ≡ None
seam [] h = refl
seam (a ∷ rest) h = number_begins_no_s (amount_text a ++ flat_map amount_text rest) (amount_begins a (flat_map amount_text rest) h.0)

pub nothing : AreAmounts [] 0
nothing = record { amounts = []; each = tt; spelled = refl; total = refl }

no_first : (first : ℕ) (more : List ℕ) → [] ≡ first ∷ more → ⊥
no_first first more e = cc

nothing_sums : (amounts : List Amount) → AllByRecursion IsAmount amounts → [] ≡ flat_map amount_text amounts → total_nanoseconds amounts ≡ 0
nothing_sums [] h e = refl
nothing_sums (a ∷ rest) h e =
    let begins = amount_begins a (flat_map amount_text rest) h.0 in
    absurd (no_first begins.first begins.more (e ∙ begins.spelled))

pub nothing_only : (n : ℕ) → AreAmounts [] n → n ≡ 0
nothing_only n h = h.total ∙ nothing_sums h.amounts h.each h.spelled

-- one more amount in front
pub more_amounts : (text later : List ℕ) (k n : ℕ) → amount_at text ≡ Some (k, later) → AreAmounts later n → AreAmounts text (k + n)
more_amounts text later k n e h =
    let found = amount_found text k later e in
    record {
      amounts = found.amount ∷ h.amounts;
      each = (found.proper, h.each);
      spelled = found.spelled ∙ ap (λ (t : List ℕ). amount_text found.amount ++ t) h.spelled;
      total = ap (λ (m : ℕ). m + n) found.value ∙ ap (λ (m : ℕ). amount_nanoseconds found.amount + m) h.total;
    }

-- the rest without the first amount
pub record WithoutFirst (text : List ℕ) (n : ℕ) : Type 0 where
  pub first : ℕ
  pub later : List ℕ
  pub rest : ℕ
  pub read : amount_at text ≡ Some (first, later)
  pub total : n ≡ first + rest
  pub more : AreAmounts later rest

without : (amounts : List Amount) (text : List ℕ) (n : ℕ) → AllByRecursion IsAmount amounts → text ≡ flat_map amount_text amounts → n ≡ total_nanoseconds amounts → 0 < length text → WithoutFirst text n
without [] text n h e k some = let none = ap length e in absurd (omega arith)
without (a ∷ rest) text n h e k some = record {
  first = amount_nanoseconds a;
  later = flat_map amount_text rest;
  rest = total_nanoseconds rest;
  read = ap amount_at e ∙ amount_only a (flat_map amount_text rest) h.0 (seam rest h.1);
  total = k;
  more = record { amounts = rest; each = h.1; spelled = refl; total = refl };
}

pub less_amounts : (text : List ℕ) (n : ℕ) → AreAmounts text n → 0 < length text → WithoutFirst text n
less_amounts text n h some = without h.amounts text n h.each h.spelled h.total some

-- the loop's invariant: the whole text denotes exactly the sum so far plus what the rest denotes
pub record SumsSoFar (text rest : List ℕ) (total : ℕ) : Type 0 where
  pub down : (n : ℕ) → AreAmounts text n → (m : ℕ) × (n ≡ total + m) × AreAmounts rest m
  pub up : (m : ℕ) → AreAmounts rest m → AreAmounts text (total + m)

pub sums_none : (text : List ℕ) → SumsSoFar text text 0
sums_none text = record {
  down = λ n h. (n, omega arith, h);
  up = λ m h. let e : m ≡ 0 + m = omega arith in subst (λ (k : ℕ). AreAmounts text k) e h;
}

pub same_read : (k m : ℕ) (a b : List ℕ) (text : List ℕ) → amount_at text ≡ Some (k, a) → amount_at text ≡ Some (m, b) → (k ≡ m) × (a ≡ b)
same_read k m a b text e f =
    let same = by_some (k, a) (m, b) (sym e ∙ f) in
    (ap (λ (x : ℕ × List ℕ). x.0) same, ap (λ (x : ℕ × List ℕ). x.1) same)
  where
    by_some : (x y : ℕ × List ℕ) → Some x ≡ Some y → x ≡ y
    by_some x y h = cc

pub sums_step : (text rest later : List ℕ) (total k : ℕ) → SumsSoFar text rest total → amount_at rest ≡ Some (k, later) → SumsSoFar text later (total + k)
sums_step text rest later total k h e = record {
  down = λ n means.
      let here = h.down n means in
      let shorter = amount_shorter rest k later e in
      let less = less_amounts rest here.0 here.2 (omega arith) in
      let same = same_read k less.first later less.later rest e less.read in
      let sum = here.1 in
      let left = less.total in
      let first = same.0 in
      (less.rest, omega arith, subst (λ (t : List ℕ). AreAmounts t less.rest) (sym same.1) less.more);
  up = λ m means.
      let e2 : total + (k + m) ≡ total + k + m = omega arith in
      subst (λ (n : ℕ). AreAmounts text n) e2 (h.up (k + m) (more_amounts rest later k m e means));
}

-- if the rest can't be parsed, the whole denotes nothing that fits
pub sums_stuck : (text rest : List ℕ) (total n : ℕ) → 0 < length rest → SumsSoFar text rest total → ((k : ℕ) (later : List ℕ) → amount_at rest ≡ Some (k, later) → k < 2 ^ 64 → ⊥) → AreAmounts text n → n < 2 ^ 64 → ⊥
sums_stuck text rest total n some h stuck means fits =
    let here = h.down n means in
    let less = less_amounts rest here.0 here.2 some in
    let sum = here.1 in
    let left = less.total in
    stuck less.first less.later less.read (omega arith)

pub sums_past : (text rest later : List ℕ) (total k n : ℕ) → SumsSoFar text rest total → amount_at rest ≡ Some (k, later) → 2 ^ 64 ≤ total + k → AreAmounts text n → n < 2 ^ 64 → ⊥
sums_past text rest later total k n h e past means fits =
    let here = (sums_step text rest later total k h e).down n means in
    let sum = here.1 in
    omega arith

-- nothing is left
pub sums_all : (text rest : List ℕ) (total : ℕ) → length rest ≡ 0 → SumsSoFar text rest total → AreAmounts text total × ((n : ℕ) → AreAmounts text n → n ≡ total)
sums_all text [] total none h = (
  (let e : total + 0 ≡ total = omega arith in subst (λ (n : ℕ). AreAmounts text n) e (h.up 0 nothing)),
  λ n means.
      let here = h.down n means in
      let sum = here.1 in
      let zero_left = nothing_only here.0 here.2 in
      omega arith,
)
sums_all text (c ∷ cs) total none h = absurd (omega arith)

-- no amount starts with a sign
no_sign_read : (rest : List ℕ) (k : ℕ) (later : List ℕ) → amount_at (45 ∷ rest) ≡ Some (k, later) → ⊥
unfolding amount_at
no_sign_read rest k later e = cc

no_bare_zero_read : (k : ℕ) (later : List ℕ) → amount_at (48 ∷ []) ≡ Some (k, later) → ⊥
unfolding amount_at
no_bare_zero_read k later e = cc

other_byte : (rest : List ℕ) → 45 ∷ rest ≡ codes "0" → ⊥
other_byte rest e = cc

pub no_second_sign : (rest : List ℕ) (n : ℕ) → IsMagnitude (45 ∷ rest) n → ⊥
no_second_sign rest n (inl h) = other_byte rest h.0
no_second_sign rest n (inr h) =
    let less = less_amounts (45 ∷ rest) n h.1 h.0 in
    no_sign_read rest less.first less.later less.read

pub bare_zero_only : (n : ℕ) → IsMagnitude (codes "0") n → n ≡ 0
bare_zero_only n (inl h) = h.1
bare_zero_only n (inr h) =
    let less = less_amounts (codes "0") n h.1 h.0 in
    absurd (no_bare_zero_read less.first less.later less.read)

-- what a text without its sign denotes
pub magnitude_only : (text : List ℕ) (n : ℕ) (r : Option ℕ) → (text ≡ codes "0" → ⊥) → ((m : ℕ) → AreAmounts text m → m < 2 ^ 64 → r ≡ Some m) → IsMagnitude text n → n < 2 ^ 64 → r ≡ Some n
magnitude_only text n r never read (inl h) fits = absurd (never h.0)
magnitude_only text n r never read (inr h) fits = read n h.1 fits

-- what a text with a sign denotes, and one without
pub record MeansBackward (rest : List ℕ) (z : ℤ) : Type 0 where
  pub n : ℕ
  pub magnitude : IsMagnitude rest n
  pub value : z ≡ neg_ℤ (pos n)
  pub in_range : IsDuration z
  pub fits : n < 2 ^ 64

pub backward_only : (text rest : List ℕ) (z : ℤ) → after 45 text ≡ Some rest → IsDurationText text z → MeansBackward rest z
backward_only text rest z e (forward n magnitude value fits) =
    absurd (no_second_sign rest n (subst (λ (t : List ℕ). IsMagnitude t n) (after_found 45 text rest e) magnitude))
backward_only text rest z e (backward other n spelled magnitude value fits) =
    let same = same_rest other rest (sym spelled ∙ after_found 45 text rest e) in
    record { n = n; magnitude = subst (λ (t : List ℕ). IsMagnitude t n) same magnitude; value = value; in_range = fits; fits = small z n value fits }
  where
    same_rest : (a b : List ℕ) → 45 ∷ a ≡ 45 ∷ b → a ≡ b
    same_rest a b e = cc

    small : (z : ℤ) (n : ℕ) → z ≡ neg_ℤ (pos n) → IsDuration z → n < 2 ^ 64
    small z n e h = omega (arith, ints)

pub record MeansForward (text : List ℕ) (z : ℤ) : Type 0 where
  pub n : ℕ
  pub magnitude : IsMagnitude text n
  pub value : z ≡ pos n
  pub in_range : IsDuration z
  pub fits : n < 2 ^ 64

pub forward_only : (text : List ℕ) (z : ℤ) → after 45 text ≡ None → IsDurationText text z → MeansForward text z
forward_only text z e (forward n magnitude value fits) = record { n = n; magnitude = magnitude; value = value; in_range = fits; fits = small z n value fits } where
  small : (z : ℤ) (n : ℕ) → z ≡ pos n → IsDuration z → n < 2 ^ 64
  small z n e h = omega (arith, ints)
forward_only text z e (backward rest n spelled magnitude value fits) = contradicted (sym (ap (after 45) spelled) ∙ e) where
  contradicted : {P : Type 0} → Some rest ≡ None → P
  contradicted h = cc
