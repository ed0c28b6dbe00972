use Rattle.std.proofs.Common.{◌∙◌}
use Rattle.kube_functions_lists.proofs.Lent.{reversed_seen}
use Rattle.kube_functions_lists.proofs.lists.reversed.Goals as goal

pub returns : goal.returns
returns c = record {
  value =
      reversed_seen c.in_ok-values.values.items c.as_mut_slice.result.now c.args.items.now c.reverse.new.self c.in_ok-values.values.len
      c.reverse.ensures.after c.as_mut_slice.ensures.value (c.reverse.ensures.len ∙ c.as_mut_slice.ensures.len) c.in_ok-values.ensures.value;
}
