use Rattle.kube_manifests_documents.proofs.item.entries_of.Given as goal
use Rattle.kube_manifests_documents.specs.Policies.{HasNames, entries_after, item_view}
use Rattle.serde_json.specs.View.{items_view}
use Rattle.std.proofs.Common.{◌≡◌, [], drop, map}

abbrev pub invariant-loop-value : goal.invariant-loop-value
invariant-loop-value l = record {
  entries : entries_after l.list [] (items_view l.values) ≡ entries_after l.list (map item_view l.items.items) (items_view (drop l.value-index l.values));
  names : HasNames l.list l.names (map item_view l.items.items);
}
