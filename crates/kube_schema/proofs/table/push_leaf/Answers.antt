use Rattle.std.proofs.Common.{refl, ◌∙◌}
use Rattle.kube_schema.proofs.Trees.{closed_push, ordered_push, appends}
use Rattle.kube_schema.proofs.table.push_leaf.Goals as goal

pub invariant_of-table : goal.invariant_of-table
invariant_of-table g c = record {
  closed = closed_push _ _ _ _ c.push.ensures.items (record { properties = c.new.ensures.items; items = refl; additional = refl; all_of = c.new-2.ensures.items; one_of = c.new-3.ensures.items; any_of = c.new-4.ensures.items }) c.args.table.now.closed;
  ordered = ordered_push _ _ _ _ c.push.ensures.items (record { properties = c.new.ensures.items; items = refl; additional = refl; all_of = c.new-2.ensures.items; one_of = c.new-3.ensures.items; any_of = c.new-4.ensures.items }) c.args.table.now.ordered;
}

pub returns : goal.returns
returns g c = appends _ _ _ _ c.in_ok-push.ensures.items (c.len.ensures ∙ c.args.table.now.nodes.ok.0) (record { properties = c.new.ensures.items; items = refl; additional = refl; all_of = c.new-2.ensures.items; one_of = c.new-3.ensures.items; any_of = c.new-4.ensures.items }) c.args.table.now.closed
