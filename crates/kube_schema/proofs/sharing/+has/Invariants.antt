use Rattle.std.proofs.Common.{◌≡◌, ◌+◌, ◌*◌, take, map}
use Rattle.serde_json.specs.View.{view}
use Rattle.kube_schema.specs.CompiledDefaults.{tree_accessors}
use Rattle.kube_schema.specs.Shown.{node_tree}
use Rattle.kube_schema_values.specs.Defaults.{defaulted_value, member_by}
use Rattle.kube_schema_values.proofs.Whole.{Stay}
use Rattle.kube_schema.proofs.sharing.+has.Given as goal

abbrev pub decreases-has_defaults : goal.decreases-has_defaults
decreases-has_defaults g l = 3 * l.levels

abbrev pub decreases-items_have_defaults : goal.decreases-items_have_defaults
decreases-items_have_defaults g l = 3 * l.levels + 1

abbrev pub decreases-members_have_defaults : goal.decreases-members_have_defaults
decreases-members_have_defaults g l = 3 * l.levels + 2

abbrev pub decreases-member_has_defaults : goal.decreases-member_has_defaults
decreases-member_has_defaults g l = 3 * l.levels + 1

abbrev pub invariant-items_have_defaults-loop-item : goal.invariant-items_have_defaults-loop-item
invariant-items_have_defaults-loop-item g l = map (λ v. defaulted_value tree_accessors l.levels (node_tree l.node) (view v)) (take l.item-index l.item-items) ≡ map view (take l.item-index l.item-items)

abbrev pub invariant-members_have_defaults-loop-key : goal.invariant-members_have_defaults-loop-key
invariant-members_have_defaults-loop-key g l = Stay (member_by tree_accessors (defaulted_value tree_accessors l.levels) (node_tree l.node)) l.key-iterator → Stay (member_by tree_accessors (defaulted_value tree_accessors l.levels) (node_tree l.node)) l.members.entries
