use Rattle.std.proofs.Common.{◌≡◌, ◌≤◌, length, drop}
use Rattle.cel_demand.specs.Demand.{part_of, members_view}
use Rattle.cel_demand.specs.Part.{part_at}
use Rattle.cel_demand.proofs.both.demand_at.Given as goal

abbrev pub invariant-loop-left : goal.invariant-loop-left
invariant-loop-left l = record { within : l.left ≤ length l.members.items; at : part_of l.demand ≡ part_at l.name (members_view (drop l.left l.members.items)) }

abbrev pub decreases-loop-left : goal.decreases-loop-left
decreases-loop-left l = l.left
