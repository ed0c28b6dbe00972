use Rattle.std.proofs.Common.{◌≡◌, ◌+◌, ◌*◌, take, drop, map}
use Rattle.serde_json.specs.View.{view, members_view}
use Rattle.kube_schema.specs.CompiledDefaults.{tree_accessors}
use Rattle.kube_schema.specs.Shown.{node_tree}
use Rattle.kube_schema.specs.Tree.{named_of, names}
use Rattle.kube_schema_values.specs.Defaults.{defaulted_value, member_by, default_by, with_defaults}
use Rattle.kube_schema_values.proofs.Filling.{Mapped}
use Rattle.kube_schema.proofs.defaults.+fill.Given as goal

abbrev pub decreases-fill : goal.decreases-fill
decreases-fill g l = 5 * l.levels

abbrev pub decreases-fill_items : goal.decreases-fill_items
decreases-fill_items g l = 5 * l.levels + 1

abbrev pub decreases-fill_members : goal.decreases-fill_members
decreases-fill_members g l = 5 * l.levels + 3

abbrev pub decreases-fill_member : goal.decreases-fill_member
decreases-fill_member g l = 5 * l.levels + 1

abbrev pub decreases-add_defaults : goal.decreases-add_defaults
decreases-add_defaults g l = 5 * l.levels + 2

abbrev pub decreases-add_default : goal.decreases-add_default
decreases-add_default g l = 5 * l.levels + 1

abbrev pub invariant-fill_items-loop-item : goal.invariant-fill_items-loop-item
invariant-fill_items-loop-item g l = map view l.filled.items ≡ map (λ v. defaulted_value tree_accessors l.levels (node_tree l.node) (view v)) (take l.item-index l.item-items)

abbrev pub invariant-fill_members-loop-key : goal.invariant-fill_members-loop-key
invariant-fill_members-loop-key g l = Mapped (member_by tree_accessors (defaulted_value tree_accessors l.levels) (node_tree l.node)) l.members.entries l.key-iterator (members_view l.filled.entries)

abbrev pub invariant-add_defaults-loop-index : goal.invariant-add_defaults-loop-index
invariant-add_defaults-loop-index g l =
    with_defaults (default_by tree_accessors (defaulted_value tree_accessors l.levels) (node_tree l.node)) (drop l.index (names (named_of (node_tree l.node)))) (members_view l.target.entries)
    ≡ with_defaults (default_by tree_accessors (defaulted_value tree_accessors l.levels) (node_tree l.node)) (names (named_of (node_tree l.node))) (members_view l.fn.target.entries)
