use Rattle.std.proofs.Common.{◌≡◌, ◌+◌, ◌*◌, ◌-◌, take, map}
use Rattle.serde_json.specs.View.{view as json_view}
use Rattle.cel_value.specs.View.{view, entries_view}
use Rattle.kube_schema_values.specs.Conversion.{to_cel, entries_by, member_by, member_key}
use Rattle.kube_schema_values.proofs.Behind.{Behind}
use Rattle.kube_schema_values.proofs.binding.+bind.Given as goal

abbrev pub decreases-bind_with : goal.decreases-bind_with
decreases-bind_with g l = 5 * (66 - l.depth)

abbrev pub decreases-bind_by : goal.decreases-bind_by
decreases-bind_by g l = 5 * (66 - l.depth) - 1

abbrev pub decreases-bind_items : goal.decreases-bind_items
decreases-bind_items g l = 5 * (66 - l.depth) + 1

abbrev pub decreases-bind_object : goal.decreases-bind_object
decreases-bind_object g l = 5 * (66 - l.depth) - 2

abbrev pub decreases-bind_members : goal.decreases-bind_members
decreases-bind_members g l = 5 * (66 - l.depth) - 3

abbrev pub decreases-bind_member : goal.decreases-bind_member
decreases-bind_member g l = 5 * (66 - l.depth) - 4

abbrev pub invariant-bind_items-loop-item : goal.invariant-bind_items-loop-item
invariant-bind_items-loop-item g l = map view l.bound.items ≡ map (λ v. to_cel g.N.Node.accessors (65 - l.depth) (g.N.Node.seen l.node) (json_view v)) (take l.item-index l.item-items)

abbrev pub invariant-bind_members-loop-key : goal.invariant-bind_members-loop-key
invariant-bind_members-loop-key g l =
    Behind (entries_by (member_key g.N.Node.accessors (g.N.Node.seen l.node)) (member_by g.N.Node.accessors (to_cel g.N.Node.accessors (64 - l.depth)) (g.N.Node.seen l.node))) l.members.entries l.key-iterator.iter (entries_view l.bound.entries)
