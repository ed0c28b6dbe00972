use Rattle.std.proofs.Common.{rules}
use Rattle.std.proofs.lemmas.List.Sorted.{answers_always}
use Rattle.kube_functions_lists.proofs.Classes.{earlier, earlier_weak, sorted_values}
use Rattle.kube_functions_lists.proofs.orders.ascending.Goals as goal

pub returns : goal.returns
returns c = record {
  value =
      sorted_values c.args.items.now _ _ c.requires c.in_ok-values.ensures.value
      (c.in_ok-sort_by.ensures.sorted earlier earlier_weak (answers_always _ _ _ (λ f a r g h. search rules)))
      (c.sort_by.ensures.stable earlier earlier_weak (answers_always _ _ _ (λ f a r g h. search rules)));
}
