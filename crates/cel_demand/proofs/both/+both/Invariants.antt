use Rattle.std.proofs.Common.{◌≡◌, drop}
use Rattle.cel_demand.specs.Demand.{members_view}
use Rattle.cel_demand.specs.Part.{all_members}
use Rattle.cel_demand.proofs.both.+both.Given as goal

abbrev pub invariant-both_members-loop-member : goal.invariant-both_members-loop-member
invariant-both_members-loop-member l =
    all_members (members_view (drop l.member-index l.member-items)) (members_view l.all.items)
    ≡ all_members (members_view l.member-items) (members_view l.others.items)
