use Rattle.std.proofs.Common.{◌≡◌, drop}
use Rattle.cel_demand.specs.Demand.{members_view}
use Rattle.cel_demand.specs.Part.{all_members, without}
use Rattle.cel_demand.proofs.both.add_others.Given as goal

abbrev pub invariant-loop-member : goal.invariant-loop-member
invariant-loop-member l =
    all_members (without l.name (members_view (drop l.member-index l.member-items))) (members_view l.members.items)
    ≡ all_members (without l.name (members_view l.member-items)) (members_view l.initial.members.items)
