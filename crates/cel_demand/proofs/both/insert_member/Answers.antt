use Rattle.std.proofs.Common.{rules, ◌≡◌, ap, ◌∙◌}
use Rattle.cel_demand.specs.Demand.{part_of, members_view}
use Rattle.cel_demand.proofs.Views.{inserted}
use Rattle.cel_demand.proofs.both.insert_member.Goals as goal

pub returns : goal.returns
returns c = record {
  added = λ joined place.
      let x = c.args.name.now in
      let copied : c.in_ok-clone.field-0 ≡ x = search rules in
      ap members_view c.in_ok-insert.ensures.items
      ∙ inserted x (part_of c.args.demand.now) joined c.args.members.now.items c.args.index (c.in_ok-clone.field-0, c.in_ok-copy.field-0) place copied c.in_ok-copy.ensures.same;
}
