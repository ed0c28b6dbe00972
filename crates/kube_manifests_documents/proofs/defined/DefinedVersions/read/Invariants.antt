use Rattle.std.proofs.Common.{◌≡◌, [], drop, map}
use Rattle.kube_manifests_documents.proofs.defined.DefinedVersions.read.Given as goal
use Rattle.kube_manifests_documents.specs.Definitions.{add_document, each}
use Rattle.kube_manifests_documents.specs.Defined.{IsIndexed, list_view}
use Rattle.serde_json.specs.View.{items_of, view}

abbrev pub invariant-loop-index : goal.invariant-loop-index
invariant-loop-index l = record {
  added : each add_document l.index (items_of (map (λ v. view v.now) (drop l.index l.documents))) (list_view l.versions)
      ≡ each add_document 0 (items_of (map (λ v. view v.now) l.documents)) [];
  indexed : IsIndexed l.versions;
}
