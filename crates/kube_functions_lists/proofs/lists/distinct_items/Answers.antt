use Rattle.std.proofs.Common.{map}
use Rattle.cel_value.specs.View.{view}
use Rattle.kube_functions_lists.specs.Hashed.{among}
use Rattle.kube_functions_lists.specs.Lists.{distinct_items}
use Rattle.kube_functions_lists.proofs.Distinct.{started, continued, finished}
use Rattle.kube_functions_lists.proofs.Hashed.{none_among}
use Rattle.kube_functions_lists.proofs.lists.distinct_items.Goals as goal

pub loop-item-init : goal.loop-item-init
loop-item-init c =
    (started c.new-kept.result.items c.args.items.now c.new-kept.ensures.items, c.new-known.ensures (among c.new-kept.result.items) (none_among c.new-kept.result.items c.new-kept.ensures.items))

pub loop-item-preserved : goal.loop-item-preserved
loop-item-preserved c = (
  continued (distinct_items (map view c.args.items.now)) (map view c.push_new.new.kept.items) c.args.items.now (map view c.loop-item.kept.items) c.loop-item.item-index c.item-item.result
      c.loop-item-test.true c.item-item.is c.in_ok-push_new.ensures.pushed c.loop-item.invariant.0,
  c.in_ok-push_new.ensures.known,
)

pub returns : goal.returns
returns c = record {
  value = finished (distinct_items (map view c.args.items.now)) (map view c.loop-item.kept.items) c.args.items.now c.loop-item.item-index c.loop-item-test.false c.loop-item.invariant.0;
}

pub push_new-requires : goal.push_new-requires
push_new-requires c = c.loop-item.invariant.1
