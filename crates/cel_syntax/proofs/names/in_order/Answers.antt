use Rattle.std.proofs.Common.{◌≡◌, rules}
use Rattle.cel_syntax.proofs.Sets.{are_names}
use Rattle.cel_syntax.proofs.names.in_order.Goals as goal

pub returns : goal.returns
returns c = record {
  names =
      let e : c.loop-name.list.items ≡ c.args.names.keys = search rules in are_names c.args.names c.loop-name.list.items c.len.ensures.ordered e;
}
