use Rattle.std.proofs.Common.{◌≡◌, ◌≤◌, ◌+◌, ◌*◌, ◌-◌, ◌++◌, List, length, take, map, option_map}
use Rattle.std.specs.Prelude.{zip}
use Rattle.serde_json.specs.View.{view as json_view, members_view}
use Rattle.cel_demand.specs.Alike.{Alike, ListsAlike}
use Rattle.cel_demand.specs.Demand.{part_of, members_view as demands_view}
use Rattle.cel_value.specs.Shared.{shared_entries}
use Rattle.cel_value.specs.View.{view, entries_view}
use Rattle.cel_value.specs.declared.value.Value.{Value}
use Rattle.kube_schema_values.specs.Conversion.{levels}
use Rattle.kube_schema_parts.specs.Parts.{AreParts, entries_at, name_keys, value_at}
use Rattle.kube_schema_parts.specs.Rows.{AreRowsOf}
use Rattle.kube_schema_parts.proofs.parts.+part.Given as goal

abbrev pub decreases-part_with : goal.decreases-part_with
decreases-part_with g l = 8 * (66 - l.depth) + 3

abbrev pub decreases-list_part : goal.decreases-list_part
decreases-list_part g l = 8 * (66 - l.depth) + 2

abbrev pub decreases-item_parts : goal.decreases-item_parts
decreases-item_parts g l = 8 * (66 - l.depth) + 7

abbrev pub decreases-row_parts : goal.decreases-row_parts
decreases-row_parts g l = 8 * (66 - l.depth) + 6

abbrev pub decreases-add_rows : goal.decreases-add_rows
decreases-add_rows g l = 8 * (66 - l.depth) + 5

abbrev pub decreases-add_row : goal.decreases-add_row
decreases-add_row g l = 8 * (66 - l.depth) + 4

abbrev pub decreases-item_part : goal.decreases-item_part
decreases-item_part g l = 8 * (66 - l.depth) + 5

abbrev pub decreases-shared_part : goal.decreases-shared_part
decreases-shared_part g l = 8 * (66 - l.depth) + 4

abbrev pub decreases-shared_members : goal.decreases-shared_members
decreases-shared_members g l = 8 * (66 - l.depth) + 3

abbrev pub decreases-member_part : goal.decreases-member_part
decreases-member_part g l = 8 * (66 - l.depth) + 2

abbrev pub decreases-map_part : goal.decreases-map_part
decreases-map_part g l = 8 * (66 - l.depth) + 2

abbrev pub decreases-member_parts : goal.decreases-member_parts
decreases-member_parts g l = 8 * (66 - l.depth) + 1

abbrev pub decreases-add_part : goal.decreases-add_part
decreases-add_part g l = 8 * (66 - l.depth)

abbrev pub invariant-item_parts-loop-index : goal.invariant-item_parts-loop-index
invariant-item_parts-loop-index g l =
    (length l.parts.items ≡ l.index) × (l.index ≤ length l.items.items)
    × ListsAlike (Alike (part_of l.item)) (map view l.parts.items) (map (λ v. value_at g.N.Node.accessors (levels l.depth) (option_map g.N.Node.seen l.node) (json_view v)) (take l.index l.items.items))

abbrev pub invariant-add_rows-loop-value : goal.invariant-add_rows-loop-value
invariant-add_rows-loop-value g l =
    (l.count ≡ l.value-index) × (l.rows.keys ≡ l.fn.rows.keys) × (length l.rows.values ≡ l.count * length l.rows.keys)
    × AreRowsOf g.N.Node.accessors (levels l.depth) (option_map g.N.Node.seen l.node) l.members.items l.value-items l.count l.rows

abbrev pub invariant-add_row-loop-member : goal.invariant-add_row-loop-member
invariant-add_row-loop-member g l =
    (row : List Value) × (l.rows.keys ≡ l.fn.rows.keys) × (l.rows.values ≡ l.fn.rows.values ++ row) × (length row ≡ l.member-index)
    × AreParts (demands_view (take l.member-index l.member-items)) (entries_view (zip l.rows.keys row)) (entries_at g.N.Node.accessors (64 - l.depth) (option_map g.N.Node.seen l.node) (members_view l.object.entries))

abbrev pub invariant-member_parts-loop-member : goal.invariant-member_parts-loop-member
invariant-member_parts-loop-member g l =
    AreParts (demands_view (take l.member-index l.member-items)) (entries_view l.parts.entries) (entries_at g.N.Node.accessors (64 - l.depth) (option_map g.N.Node.seen l.node) (members_view l.object.entries))

abbrev pub invariant-shared_members-loop-member : goal.invariant-shared_members-loop-member
invariant-shared_members-loop-member g l =
    (l.parts.keys ≡ name_keys l.member-items) × (length l.parts.values ≡ l.member-index)
    × AreParts (demands_view (take l.member-index l.member-items)) (entries_view (shared_entries l.parts)) (entries_at g.N.Node.accessors (64 - l.depth) (option_map g.N.Node.seen l.node) (members_view l.object.entries))
