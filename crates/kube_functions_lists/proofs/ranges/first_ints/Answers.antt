use Rattle.std.proofs.Common.{◌∙◌, ap, sym, map, ◌++◌, ◌∷◌, []}
use Rattle.std.proofs.lemmas.List.{map_push}
use Rattle.cel_value.specs.View.{view}
use Rattle.kube_functions_lists.proofs.Lent.{one_more_int}
use Rattle.kube_functions_lists.proofs.ranges.first_ints.Goals as goal

pub loop-number-preserved : goal.loop-number-preserved
loop-number-preserved c =
    ap (map view) c.in_ok-push_item.ensures ∙ map_push view c.loop-number.ints.items c.int_value.result
    ∙ (λ i. c.loop-number.invariant i ++ c.int_value.ensures i ∷ []) ∙ sym (one_more_int c.loop-number.number)
