use Rattle.kube_cel_vap.proofs.Results.{absence_seen}
use Rattle.kube_cel_vap.proofs.expression_results.result_with.Goals as goal
use Rattle.std.proofs.Common.{option_map, string_bytes}

pub returns : goal.returns
returns c = λ i. record {
  expression = c.in_ok-from_str.ensures.ok i;
  passed = absence_seen string_bytes c.args.message c.is_none.result c.is_none.ensures i;
  message = option_map string_bytes c.args.message;
}
