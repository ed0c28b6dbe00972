use Rattle.kube_manifests_matching.proofs.labels.meets_all.Given as goal
use Rattle.kube_manifests_matching.specs.Labels.{meets_all}
use Rattle.serde_json.specs.View.{items_view, view}
use Rattle.std.proofs.Common.{◌≡◌, drop}
use Rattle.std.specs.Option.{option_map}

abbrev pub invariant-loop-value : goal.invariant-loop-value
invariant-loop-value l =
    meets_all (option_map (λ v. view v.now) l.labels) (items_view l.requirements)
    ≡ meets_all (option_map (λ v. view v.now) l.labels) (items_view (drop l.value-index l.requirements))
