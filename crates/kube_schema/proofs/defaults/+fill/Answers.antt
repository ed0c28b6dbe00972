use Rattle.std.proofs.Common.{◌≤◌, ◌+◌, length, ◌∙◌, arith}
use Rattle.serde_json.specs.View.{members_view}
use Rattle.kube_schema.specs.CompiledDefaults.{tree_accessors}
use Rattle.kube_schema.specs.Shown.{node_tree}
use Rattle.kube_schema.specs.Tree.{named_of, names}
use Rattle.kube_schema_values.specs.Defaults.{defaulted_value, member_by, default_by}
use Rattle.kube_schema_values.proofs.Filling.{items_mapped, mapped_next, object_filled}
use Rattle.kube_schema.proofs.Names.{default_at, defaults_over, defaults_past}
use Rattle.kube_schema.proofs.defaults.+fill.Goals as goal

pub fill_items-returns : goal.fill_items-returns
fill_items-returns g t c = items_mapped (defaulted_value tree_accessors c.args.levels (node_tree c.args.node.now)) c.args.items.now.items c.deref-item-items.result.now c.loop-item.item-index c.loop-item.filled.items c.loop-item.invariant c.loop-item-test.false c.deref-item-items.ensures.value

pub fill_members-loop-key-preserved : goal.fill_members-loop-key-preserved
fill_members-loop-key-preserved g t c = mapped_next (member_by tree_accessors (defaulted_value tree_accessors c.args.levels) (node_tree c.args.node.now)) c.args.members.now.entries c.loop-key.key-iterator c.next.new.self c.loop-key.filled.entries c.insert.new.self.entries (c.in-Some.key.now, c.in-Some.member.now) c.as_str.result.now c.in_ok-name.name c.in_ok-value.value c.loop-key.invariant
    c.iter-key-items.ensures.ordered c.in-Some.ensures.steps c.in_ok-name.ensures.cases c.as_str.ensures.value c.in_ok-value.ensures c.in_ok-insert.ensures.entries

pub fill_members-returns : goal.fill_members-returns
unfolding tree_accessors
fill_members-returns g t c = object_filled tree_accessors (defaulted_value tree_accessors c.args.levels) (node_tree c.args.node.now) c.args.members.now.entries c.loop-key.key-iterator (members_view c.loop-key.filled.entries) (members_view c.add_defaults.new.target.entries) c.loop-key.invariant c.in-None.ensures.steps.0 c.in_ok-add_defaults.ensures

pub add_defaults-returns-in_default : goal.add_defaults-returns-in_default
add_defaults-returns-in_default g t c =
    let s = node_tree c.args.node.now in
    defaults_over (default_by tree_accessors (defaulted_value tree_accessors c.args.levels) s) (named_of s) c.loop-index.index (members_view c.loop-index.target.entries) c.in_default.ensures.pair ∙ c.loop-index.invariant

pub add_defaults-loop-index-preserved : goal.add_defaults-loop-index-preserved
add_defaults-loop-index-preserved g t c =
    default_at (defaulted_value tree_accessors c.args.levels) (node_tree c.args.node.now) c.loop-index.index (c.loop-index.index + 1) c.in-Some.key.now (node_tree c.in-Some.property) (members_view c.loop-index.target.entries) (members_view c.add_default.new.target.entries)
    c.in-Some.ensures.pair c.in-Some.ensures.named (omega arith) c.in_ok-add_default.ensures
    ∙ c.loop-index.invariant

pub add_defaults-returns : goal.add_defaults-returns
add_defaults-returns g t c =
    let s = node_tree c.args.node.now in
    let past : length (names (named_of s)) ≤ c.loop-index.index = let e = c.property_count-index-end.ensures.count in let h = c.loop-index-test.false in omega arith in
    defaults_past (default_by tree_accessors (defaulted_value tree_accessors c.args.levels) s) (names (named_of s)) c.loop-index.index (members_view c.loop-index.target.entries) past ∙ c.loop-index.invariant
