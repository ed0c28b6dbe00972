use Rattle.std.proofs.Common.{◌≡◌, drop}
use Rattle.cel_demand.specs.Demand.{members_view}
use Rattle.cel_demand.specs.Part.{has_name}
use Rattle.cel_demand.proofs.both.has_name.Given as goal

abbrev pub invariant-loop-member : goal.invariant-loop-member
invariant-loop-member l = has_name l.name (members_view (drop l.member-index l.member-items)) ≡ has_name l.name (members_view l.member-items)
