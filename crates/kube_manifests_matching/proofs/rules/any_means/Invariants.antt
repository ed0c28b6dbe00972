use Rattle.kube_manifests_matching.proofs.rules.any_means.Given as goal
use Rattle.kube_manifests_matching.specs.Attributes.{attributes_view}
use Rattle.kube_manifests_matching.specs.Rules.{any_means}
use Rattle.serde_json.specs.View.{items_view}
use Rattle.std.proofs.Common.{◌≡◌, drop}

abbrev pub invariant-loop-pattern : goal.invariant-loop-pattern
invariant-loop-pattern l =
    any_means (items_view l.patterns) (attributes_view l.attributes)
    ≡ any_means (items_view (drop l.pattern-index l.patterns)) (attributes_view l.attributes)
