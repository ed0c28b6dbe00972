-- The answers of the parser of durations.
use Rattle.std.proofs.Common.{◌≡◌, ◌↔◌, ℕ, ◌<◌, ◌^◌, ℤ, pos, neg_ℤ, List, Option, Some, None, IsSome, IfSome, IsSomeAnd, refl, sym, ap, subst, ◌∙◌}
use Rattle.cel_value_times.specs.declared.duration.Duration.{Duration}
use Rattle.cel_value_times.specs.Ranges.{IsDuration}
use Rattle.cel_value_times.specs.DurationTexts.{IsMagnitude, IsDurationText, forward, backward}
use Rattle.cel_value_times.specs.Fronts.{after}
use Rattle.cel_value_times.proofs.AmountLemmas.{after_found}
use Rattle.cel_value_times.proofs.SumLemmas.{backward_only, forward_only}

same_some : {A : Type 0} (x y : A) → Some x ≡ Some y → x ≡ y
same_some x y e = cc

only_in_range : (r : Option Duration) (z y : ℤ) → (IsSome r ↔ IsDuration z) → IfSome r (λ d. d.nanoseconds ≡ z) → y ≡ z → IsDuration y → IsSomeAnd r (λ d. d.nanoseconds ≡ y)
only_in_range None z y some value e h = no_some (some.1 (subst IsDuration e h)) where
  no_some : {P : Type 0} → IsSome (let n : Option Duration = None in n) → P
  no_some h = cc
only_in_range (Some d) z y some value e h = value ∙ sym e

-- after a minus
pub backward_found : (text rest : List ℕ) (m : ℕ) (r : Option Duration) → after 45 text ≡ Some rest → IsMagnitude rest m → (IsSome r ↔ IsDuration (neg_ℤ (pos m))) → IfSome r (λ d. d.nanoseconds ≡ neg_ℤ (pos m)) → IfSome r (λ d. IsDurationText text d.nanoseconds)
backward_found text rest m None e magnitude some value = tt
backward_found text rest m (Some d) e magnitude some value =
    backward rest m (after_found 45 text rest e) magnitude value (subst IsDuration (sym value) (some.0 refl))

pub backward_answers : (text rest : List ℕ) (m : ℕ) (r : Option Duration) → after 45 text ≡ Some rest → ((n : ℕ) → IsMagnitude rest n → n < 2 ^ 64 → Some m ≡ Some n) → (IsSome r ↔ IsDuration (neg_ℤ (pos m))) → IfSome r (λ d. d.nanoseconds ≡ neg_ℤ (pos m)) → (z : ℤ) → IsDurationText text z → IsSomeAnd r (λ d. d.nanoseconds ≡ z)
backward_answers text rest m r e only some value z h =
    let means = backward_only text rest z e h in
    let same = same_some m means.n (only means.n means.magnitude means.fits) in
    only_in_range r (neg_ℤ (pos m)) z some value (means.value ∙ ap (λ (n : ℕ). neg_ℤ (pos n)) (sym same)) means.in_range

pub backward_nothing : (text rest : List ℕ) → after 45 text ≡ Some rest → ((n : ℕ) → IsMagnitude rest n → n < 2 ^ 64 → None ≡ Some n) → (z : ℤ) → IsDurationText text z → ⊥
backward_nothing text rest e only z h =
    let means = backward_only text rest z e h in
    none_some means.n (only means.n means.magnitude means.fits)
  where
    none_some : (n : ℕ) → None ≡ Some n → ⊥
    none_some n e = cc

-- without a minus
pub forward_found : (text : List ℕ) (m : ℕ) (r : Option Duration) → IsMagnitude text m → (IsSome r ↔ IsDuration (pos m)) → IfSome r (λ d. d.nanoseconds ≡ pos m) → IfSome r (λ d. IsDurationText text d.nanoseconds)
forward_found text m None magnitude some value = tt
forward_found text m (Some d) magnitude some value = forward m magnitude value (subst IsDuration (sym value) (some.0 refl))

pub forward_answers : (text : List ℕ) (m : ℕ) (r : Option Duration) → after 45 text ≡ None → ((n : ℕ) → IsMagnitude text n → n < 2 ^ 64 → Some m ≡ Some n) → (IsSome r ↔ IsDuration (pos m)) → IfSome r (λ d. d.nanoseconds ≡ pos m) → (z : ℤ) → IsDurationText text z → IsSomeAnd r (λ d. d.nanoseconds ≡ z)
forward_answers text m r e only some value z h =
    let means = forward_only text z e h in
    let same = same_some m means.n (only means.n means.magnitude means.fits) in
    only_in_range r (pos m) z some value (means.value ∙ ap (λ (n : ℕ). pos n) (sym same)) means.in_range

pub forward_nothing : (text : List ℕ) → after 45 text ≡ None → ((n : ℕ) → IsMagnitude text n → n < 2 ^ 64 → None ≡ Some n) → (z : ℤ) → IsDurationText text z → ⊥
forward_nothing text e only z h =
    let means = forward_only text z e h in
    none_some means.n (only means.n means.magnitude means.fits)
  where
    none_some : (n : ℕ) → None ≡ Some n → ⊥
    none_some n e = cc
