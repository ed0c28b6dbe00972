use Rattle.std.proofs.Common.{◌≡◌, take, map}
use Rattle.serde_json.specs.View.{view as json_view}
use Rattle.cel_value.specs.View.{view, entries_view}
use Rattle.kube_schema_values.specs.Plain.{plain, plain_entries}
use Rattle.kube_schema_values.proofs.Behind.{Behind}
use Rattle.kube_schema_values.proofs.values.+plain.Given as goal

abbrev pub invariant-bind_items-loop-item : goal.invariant-bind_items-loop-item
invariant-bind_items-loop-item l = map view l.bound.items ≡ map (λ v. plain (json_view v)) (take l.item-index l.item-items)

abbrev pub invariant-bind_members-loop-key : goal.invariant-bind_members-loop-key
invariant-bind_members-loop-key l = Behind plain_entries l.members.entries l.key-iterator.iter (entries_view l.bound.entries)
