use Rattle.std.proofs.Common.{◌≡◌, drop}
use Rattle.kube_manifests_documents.proofs.definitions.add_items.Given as goal
use Rattle.kube_manifests_documents.specs.Definitions.{add_item, each}
use Rattle.kube_manifests_documents.specs.Defined.{IsIndexed, list_view}
use Rattle.serde_json.specs.View.{items_view}

abbrev pub invariant-loop-index : goal.invariant-loop-index
invariant-loop-index l = record {
  added : each (add_item l.document) l.index (items_view (drop l.index l.items)) (list_view l.versions)
      ≡ each (add_item l.document) 0 (items_view l.items) (list_view l.fn.versions);
  indexed : IsIndexed l.versions;
}
