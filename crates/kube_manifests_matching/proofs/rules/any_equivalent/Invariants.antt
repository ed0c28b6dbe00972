use Rattle.kube_manifests_bindings.specs.Constraints.{rules_of}
use Rattle.kube_manifests_matching.proofs.rules.any_equivalent.Given as goal
use Rattle.kube_manifests_matching.specs.Attributes.{attributes_view}
use Rattle.kube_manifests_resources.specs.Resources.{served_view}
use Rattle.kube_manifests_matching.specs.Rules.{any_equivalent}
use Rattle.serde_json.specs.View.{items_view}
use Rattle.std.proofs.Common.{◌≡◌, drop, map}

abbrev pub invariant-loop-served : goal.invariant-loop-served
invariant-loop-served l =
    any_equivalent (map served_view l.equivalents) (rules_of (items_view l.rules)) (attributes_view l.attributes)
    ≡ any_equivalent (map served_view (drop l.served-index l.equivalents)) (rules_of (items_view l.rules)) (attributes_view l.attributes)
