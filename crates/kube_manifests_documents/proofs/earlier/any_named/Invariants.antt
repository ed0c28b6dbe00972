use Rattle.std.proofs.Common.{◌≡◌, drop}
use Rattle.kube_manifests_documents.proofs.earlier.any_named.Given as goal
use Rattle.kube_manifests_documents.specs.Earlier.{any_named}
use Rattle.serde_json.specs.View.{items_view}

abbrev pub invariant-loop-value : goal.invariant-loop-value
invariant-loop-value l = any_named l.group l.kind (items_view (drop l.value-index l.values)) ≡ any_named l.group l.kind (items_view l.values)
