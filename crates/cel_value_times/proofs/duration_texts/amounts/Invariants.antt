use Rattle.std.proofs.Common.{length}
use Rattle.cel_value_times.proofs.SumLemmas.{SumsSoFar}
use Rattle.cel_value_times.proofs.duration_texts.amounts.Given as goal

abbrev pub invariant-amounts : goal.invariant-amounts
invariant-amounts l = SumsSoFar l.text l.rest l.total

abbrev pub decreases-amounts : goal.decreases-amounts
decreases-amounts l = length l.rest
