use Rattle.std.proofs.Common.{◌≡◌, map, arith, rules}
use Rattle.std.proofs.lemmas.Grind.{common_steps}
use Rattle.cel_demand.proofs.Views.{named, same_members}
use Rattle.cel_demand.proofs.demand.+copies.Goals as goal

pub copy_members-returns : goal.copy_members-returns
copy_members-returns t c = record {
  same =
      let all : map named c.loop-member.copies.items ≡ map named c.args.members.now.items = first_of (search rules, grind (arith, common_steps)) in
      same_members c.loop-member.copies.items c.args.members.now.items all;
}
