use Rattle.std.proofs.Common.{◌-◌, refl}
use Rattle.serde_json.specs.View.{view, members_view}
use Rattle.kube_schema.specs.CompiledDefaults.{tree_accessors}
use Rattle.kube_schema.specs.Shown.{node_tree}
use Rattle.kube_schema_values.specs.Defaults.{defaulted_value}
use Rattle.kube_schema_values.proofs.Filling.{items_stay}
use Rattle.kube_schema_values.proofs.Whole.{whole_object}
use Rattle.kube_schema.proofs.sharing.+has.Goals as goal

pub has_defaults-returns-then-lacks_no_key : goal.has_defaults-returns-then-lacks_no_key
unfolding tree_accessors
has_defaults-returns-then-lacks_no_key g t c = λ yes. whole_object tree_accessors c.args.levels (node_tree c.args.node.now) (view c.args.value.now) (members_view c.in-Some.members.now.entries) c.if-levels-eq0.false c.in-Some.ensures (c.if-lacks_no_key.ensures refl (defaulted_value tree_accessors (c.args.levels - 1))) (c.members_have_defaults.ensures yes)

pub items_have_defaults-returns : goal.items_have_defaults-returns
items_have_defaults-returns g t c = λ yes. items_stay (defaulted_value tree_accessors c.args.levels (node_tree c.args.node.now)) c.args.items.now.items c.deref-item-items.result.now c.loop-item.item-index c.loop-item.invariant c.loop-item-test.false c.deref-item-items.ensures.value
