use Rattle.kube_manifests_bindings.proofs.selector.check_requirements.Given as goal
use Rattle.kube_manifests_bindings.specs.Fields.{each_fits}
use Rattle.kube_manifests_bindings.specs.Selectors.{requirement_fits}
use Rattle.kube_manifests_documents.specs.Pointers.{keyword_pointer}
use Rattle.serde_json.specs.View.{items_view}
use Rattle.std.proofs.Common.{◌≡◌, codes, drop}

abbrev pub invariant-loop-index : goal.invariant-loop-index
invariant-loop-index l =
    each_fits requirement_fits (keyword_pointer l.pointer (codes "matchExpressions")) 0 (items_view l.items)
    ≡ each_fits requirement_fits (keyword_pointer l.pointer (codes "matchExpressions")) l.index (items_view (drop l.index l.items))
