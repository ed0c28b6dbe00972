use Rattle.std.proofs.Common.{map, take}
use Rattle.cel_value.specs.View.{view}
use Rattle.cel_stdlib.proofs.Leading.{Leads}
use Rattle.cel_stdlib.proofs.extremes.choose.Given as goal

abbrev pub invariant-loop-value : goal.invariant-loop-value
invariant-loop-value l = Leads l.end (view l.best) (view l.first) (map view (take l.value-index l.rest))
