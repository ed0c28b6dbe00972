use Rattle.std.proofs.Common.{◌≡◌, map, take}
use Rattle.cel_demand.proofs.Views.{named}
use Rattle.cel_demand.proofs.demand.+copies.Given as goal

abbrev pub invariant-copy_members-loop-member : goal.invariant-copy_members-loop-member
invariant-copy_members-loop-member l = map named l.copies.items ≡ map named (take l.member-index l.member-items)
