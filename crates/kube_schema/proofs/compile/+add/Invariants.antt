use Rattle.std.proofs.Common.{◌≡◌, ◌+◌, ◌*◌, List, ◌++◌, take}
use Rattle.serde_json.specs.View.{items_view, members_view}
use Rattle.serde_json.proofs.Views.{Entry}
use Rattle.kube_schema.specs.Source.{source_own}
use Rattle.kube_schema.specs.View.{view_of, named_view, nodes_view}
use Rattle.kube_schema.specs.Raw.{AddsNamed, AddsNodes}
use Rattle.kube_schema.proofs.compile.+add.Given as goal

abbrev pub decreases-add_node : goal.decreases-add_node
decreases-add_node l = 4 * l.levels

abbrev pub decreases-add_children : goal.decreases-add_children
decreases-add_children l = 4 * l.levels + 3

abbrev pub decreases-add_properties : goal.decreases-add_properties
decreases-add_properties l = 4 * l.levels + 2

abbrev pub decreases-add_members : goal.decreases-add_members
decreases-add_members l = 4 * l.levels + 1

abbrev pub decreases-add_maybe : goal.decreases-add_maybe
decreases-add_maybe l = 4 * l.levels + 1

abbrev pub decreases-add_branches : goal.decreases-add_branches
decreases-add_branches l = 4 * l.levels + 2

abbrev pub decreases-add_items : goal.decreases-add_items
decreases-add_items l = 4 * l.levels + 1

abbrev pub invariant-add_members-loop-key : goal.invariant-add_members-loop-key
invariant-add_members-loop-key l = record {
  done : List Entry;
  all : l.members.entries ≡ done ++ l.key-iterator;
  adds : AddsNamed source_own l.fn.table.nodes.items l.table.nodes.items l.links.items (named_view (view_of l.levels) (members_view done));
}

abbrev pub invariant-add_items-loop-item : goal.invariant-add_items-loop-item
invariant-add_items-loop-item l = AddsNodes source_own l.fn.table.nodes.items l.table.nodes.items l.numbers.items (nodes_view (view_of l.levels) (items_view (take l.item-index l.item-items)))
