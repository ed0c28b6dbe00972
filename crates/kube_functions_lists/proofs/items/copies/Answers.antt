use Rattle.std.proofs.Common.{[], ap, map, ◌∙◌}
use Rattle.std.proofs.lemmas.List.{take_all}
use Rattle.cel_value.specs.View.{view}
use Rattle.cel_semantics.proofs.Lookups.{copied_more}
use Rattle.kube_functions_lists.proofs.items.copies.Goals as goal

pub loop-item-preserved : goal.loop-item-preserved
loop-item-preserved c =
    copied_more [] c.args.items.now c.loop-item.item-index c.item-item.result c.in_ok-try_clone.field-0 c.loop-item.copied.items c.push.new.self.items c.loop-item-test.true c.item-item.is c.in_ok-try_clone.ensures.value c.loop-item.invariant c.in_ok-push.ensures.items

pub returns : goal.returns
returns c = record {
  value = c.loop-item.invariant ∙ ap (map view) (take_all c.loop-item.item-index c.args.items.now c.loop-item-test.false);
}
