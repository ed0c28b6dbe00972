use Rattle.std.proofs.Common.{◌-◌, ◌≤◌, length}
use Rattle.cel_value.specs.StoredEntries.{place_of}
use Rattle.cel_value.proofs.Stored.{IsBetween}
use Rattle.cel_value.proofs.value.stored.search.Given as goal

abbrev pub invariant-loop-low : goal.invariant-loop-low
invariant-loop-low l = (l.low ≤ l.high) × (l.high ≤ length l.entries) × IsBetween l.low l.high (place_of l.key l.entries)

abbrev pub decreases-loop-low : goal.decreases-loop-low
decreases-loop-low l = l.high - l.low
