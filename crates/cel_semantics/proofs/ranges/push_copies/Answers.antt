use Rattle.std.proofs.Common.{ap, map, sym, ◌∙◌, ◌++◌}
use Rattle.std.proofs.lemmas.List.{take_all, append-nil}
use Rattle.cel_value.specs.View.{view}
use Rattle.cel_semantics.proofs.Lookups.{copied_more}
use Rattle.cel_semantics.proofs.ranges.push_copies.Goals as goal

pub loop-item-preserved : goal.loop-item-preserved
loop-item-preserved c =
    copied_more c.args.values.now.items c.args.items.now c.loop-item.item-index c.item-item.result c.in_ok-try_clone.field-0 c.loop-item.values.items c.push.new.self.items c.loop-item-test.true c.item-item.is c.in_ok-try_clone.ensures.value c.loop-item.invariant c.in_ok-push.ensures.items

pub loop-item-init : goal.loop-item-init
loop-item-init c = sym (append-nil (map view c.args.values.now.items))

pub returns : goal.returns
returns c = record {
  pushed =
      c.loop-item.invariant ∙ ap (λ xs. map view c.args.values.now.items ++ map view xs) (take_all c.loop-item.item-index c.args.items.now c.loop-item-test.false);
}
