use Rattle.cel_value.specs.View.{entries_view, view}
use Rattle.kube_manifests_names.proofs.values.+unstructured.Given as goal
use Rattle.kube_manifests_names.specs.Unstructured.{unstructured, unstructured_entries}
use Rattle.kube_schema_values.proofs.Behind.{Behind}
use Rattle.serde_json.specs.View.{view as json_view}
use Rattle.std.proofs.Common.{◌≡◌, map, take}

abbrev pub invariant-unstructured_items-loop-item : goal.invariant-unstructured_items-loop-item
invariant-unstructured_items-loop-item l = map view l.values.items ≡ map (λ v. unstructured (json_view v)) (take l.item-index l.item-items)

abbrev pub invariant-unstructured_entries-loop-key : goal.invariant-unstructured_entries-loop-key
invariant-unstructured_entries-loop-key l = Behind unstructured_entries l.members.entries l.key-iterator.iter (entries_view l.entries.entries)
