use Rattle.kube_manifests_bindings.specs.Constraints.{rules_of}
use Rattle.kube_manifests_matching.proofs.rules.any_apart.Given as goal
use Rattle.kube_manifests_matching.specs.Attributes.{attributes_view}
use Rattle.kube_manifests_matching.specs.Rules.{any_apart}
use Rattle.serde_json.specs.View.{items_view}
use Rattle.std.proofs.Common.{◌≡◌, drop}

abbrev pub invariant-loop-value : goal.invariant-loop-value
invariant-loop-value l =
    any_apart (rules_of (items_view l.rules)) (attributes_view l.attributes)
    ≡ any_apart (rules_of (items_view (drop l.value-index l.rules))) (attributes_view l.attributes)
