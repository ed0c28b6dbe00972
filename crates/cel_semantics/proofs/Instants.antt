-- Checked sums and differences of timestamps and durations equal their definitions.
use Rattle.std.proofs.Common.{◌≡◌, ◌↔◌, ℤ, Bool, true, false, cond, ◌&&◌, Option, Some, None, IsSome, IfSome, Ok, Err, refl, ap, arith}
use Rattle.std.proofs.lemmas.Int.{ints}
use Rattle.cel_value.specs.Data.{Data, timestamp, duration}
use Rattle.cel_value.specs.Faults.{overflow}
use Rattle.cel_value.specs.Instants.{instant, HasTimestamp}
use Rattle.cel_value.specs.Ranges.{IsDuration, IsNanosecond, local_nanosecond}
use Rattle.cel_value.specs.Duration.{Duration}
use Rattle.cel_value.specs.Timestamp.{Timestamp}
use Rattle.cel_semantics.specs.Arithmetic.{or_overflow, is_int, is_instant, timestamp_or_overflow, duration_or_overflow}
use Rattle.cel_semantics.proofs.Numbers.{is_int-fits, is_int-past}

-- an answer that is Some exactly if the test holds
checked_by : {A : Type 0} (f : A → Data) (o : Option A) (t : Bool) (d : Data) (P : Type 0) → (P → t ≡ true) → ((P → ⊥) → t ≡ false) → IsSome o ↔ P → IfSome o (λ x. f x ≡ d) → or_overflow f o ≡ cond t (Ok d) (Err overflow)
checked_by {A = A} f None t d P there none h k = rw (none (λ p. let e : IsSome {T = A} None = h.1 p in cc))
checked_by f (Some x) t d P there none h k = rw (there (h.0 refl), k)

not_both : (a b : Bool) → (a ≡ true → b ≡ true → ⊥) → (a && b) ≡ false
not_both true true h = absurd (h refl refl)
not_both true false h = refl
not_both false b h = refl

instant_in : (t : ℤ) → IsNanosecond t → is_instant t ≡ true
instant_in t h = grind (arith, ints)

instant_only : (t : ℤ) → is_instant t ≡ true → IsNanosecond t
instant_only t h = grind (arith, ints)

in_range : (t u : ℤ) → IsNanosecond t × IsNanosecond u → (is_instant t && is_instant u) ≡ true
in_range t u h = rw (instant_in t h.0, instant_in u h.1)

out_of_range : (t u : ℤ) → (IsNanosecond t × IsNanosecond u → ⊥) → (is_instant t && is_instant u) ≡ false
out_of_range t u h = not_both (is_instant t) (is_instant u) (λ a b. h (instant_only t a, instant_only u b))

timestamp_shown : (o : Option Timestamp) (t offset : ℤ) → IfSome o (λ x. (instant x ≡ t) × (x.offset_minutes ≡ offset)) → IfSome o (λ x. timestamp (instant x) x.offset_minutes ≡ timestamp t offset)
timestamp_shown None t offset h = tt
timestamp_shown (Some x) t offset h = λ i. timestamp (h.0 i) (h.1 i)

duration_shown : (o : Option Duration) (n : ℤ) → IfSome o (λ x. x.nanoseconds ≡ n) → IfSome o (λ x. duration x.nanoseconds ≡ duration n)
duration_shown None n h = tt
duration_shown (Some x) n h = ap duration h

-- a timestamp that is Some exactly if there is one with this instant and this offset
pub timestamp_checked : (o : Option Timestamp) (t offset : ℤ) → IsSome o ↔ HasTimestamp t offset → IfSome o (λ x. (instant x ≡ t) × (x.offset_minutes ≡ offset)) → or_overflow (λ x. timestamp (instant x) x.offset_minutes) o ≡ timestamp_or_overflow t offset
timestamp_checked o t offset h k =
    let local = local_nanosecond t offset in
    checked_by _ o (is_instant t && is_instant local) (timestamp t offset) (HasTimestamp t offset) (in_range t local) (out_of_range t local) h (timestamp_shown o t offset k)

-- a duration that is Some exactly if it can have this number of nanoseconds
pub duration_checked : (o : Option Duration) (n : ℤ) → IsSome o ↔ IsDuration n → IfSome o (λ x. x.nanoseconds ≡ n) → or_overflow (λ x. duration x.nanoseconds) o ≡ duration_or_overflow n
duration_checked o n h k = checked_by _ o (is_int n) (duration n) (IsDuration n) (is_int-fits n) (is_int-past n) h (duration_shown o n k)
