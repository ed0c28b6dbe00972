use Rattle.kube_manifests_bindings.specs.Constraints.{rules_of}
use Rattle.kube_manifests_matching.proofs.rules.any_defined.Given as goal
use Rattle.kube_manifests_matching.specs.Attributes.{attributes_view}
use Rattle.kube_manifests_matching.specs.Rules.{any_defined}
use Rattle.serde_json.specs.View.{items_view}
use Rattle.std.proofs.Common.{◌≡◌, drop}

abbrev pub invariant-loop-version : goal.invariant-loop-version
invariant-loop-version l =
    any_defined l.group (items_view l.versions) (rules_of (items_view l.rules)) (attributes_view l.attributes)
    ≡ any_defined l.group (items_view (drop l.version-index l.versions)) (rules_of (items_view l.rules)) (attributes_view l.attributes)
