-- The answers of the parser of timestamps.
use Rattle.std.proofs.Common.{◌≡◌, ℕ, ℤ, List, Option, Some, None, option_map, IfSome, IsSomeAnd, sym, ap, ◌∙◌}
use Rattle.cel_value_times.specs.declared.timestamp.Timestamp.{Timestamp}
use Rattle.cel_value_times.specs.TimestampTexts.{IsTimestampText}
use Rattle.cel_value_times.specs.TimestampFronts.{Parts, parts_at, timestamp_parts}
use Rattle.cel_value_times.proofs.ReadLemmas.{parts_found, parts_only}

pub read_found : (text : List ℕ) (r : Option Timestamp) → option_map timestamp_parts r ≡ parts_at text → IfSome r (λ t. IsTimestampText text t.seconds t.nanoseconds t.offset_minutes)
read_found text None e = tt
read_found text (Some t) e = parts_found text (timestamp_parts t) (sym e)

none_some : {A : Type 0} (x : A) {P : Type 0} → None ≡ Some x → P
none_some x e = cc

pub same_some : {A : Type 0} (x y : A) → Some x ≡ Some y → x ≡ y
same_some x y e = cc

pub read_only : (text : List ℕ) (r : Option Timestamp) → option_map timestamp_parts r ≡ parts_at text → (s : ℤ) (n : ℕ) (o : ℤ) → IsTimestampText text s n o → IsSomeAnd r (λ t. (t.seconds ≡ s) × (t.nanoseconds ≡ n) × (t.offset_minutes ≡ o))
read_only text None e s n o h = none_some (record { second = s; nanoseconds = n; offset = o }) (e ∙ parts_only text s n o h)
read_only text (Some t) e s n o h =
    let want : Parts = record { second = s; nanoseconds = n; offset = o } in
    let same = same_some (timestamp_parts t) want (e ∙ parts_only text s n o h) in
    (ap (λ (p : Parts). p.second) same, ap (λ (p : Parts). p.nanoseconds) same, ap (λ (p : Parts). p.offset) same)
