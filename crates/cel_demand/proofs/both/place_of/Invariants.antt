use Rattle.cel_demand.specs.Places.{IsAfter}
use Rattle.cel_demand.proofs.both.place_of.Given as goal

abbrev pub invariant-loop-index : goal.invariant-loop-index
invariant-loop-index l = IsAfter l.name l.members.items l.index
