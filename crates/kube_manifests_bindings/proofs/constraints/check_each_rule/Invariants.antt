use Rattle.kube_manifests_bindings.proofs.constraints.check_each_rule.Given as goal
use Rattle.kube_manifests_bindings.specs.Constraints.{rule_fits}
use Rattle.kube_manifests_bindings.specs.Fields.{each_fits}
use Rattle.kube_manifests_documents.specs.Pointers.{keyword_pointer}
use Rattle.serde_json.specs.View.{items_view}
use Rattle.std.proofs.Common.{◌≡◌, drop}

abbrev pub invariant-loop-index : goal.invariant-loop-index
invariant-loop-index l =
    each_fits rule_fits (keyword_pointer l.pointer l.name) 0 (items_view l.items)
    ≡ each_fits rule_fits (keyword_pointer l.pointer l.name) l.index (items_view (drop l.index l.items))
