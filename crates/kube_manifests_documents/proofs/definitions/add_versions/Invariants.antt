use Rattle.std.proofs.Common.{◌≡◌, drop}
use Rattle.kube_manifests_documents.proofs.definitions.add_versions.Given as goal
use Rattle.kube_manifests_documents.specs.Definitions.{add_version, each}
use Rattle.kube_manifests_documents.specs.Defined.{IsIndexed, crd_view, list_view, location_view}
use Rattle.serde_json.specs.View.{items_view}

abbrev pub invariant-loop-index : goal.invariant-loop-index
invariant-loop-index l = record {
  added : each (add_version (location_view l.location) (crd_view l.crd)) l.index (items_view (drop l.index l.entries)) (list_view l.versions)
      ≡ each (add_version (location_view l.location) (crd_view l.crd)) 0 (items_view l.entries) (list_view l.fn.versions);
  indexed : IsIndexed l.versions;
}
