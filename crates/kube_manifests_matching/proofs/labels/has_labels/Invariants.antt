use Rattle.kube_manifests_matching.proofs.labels.has_labels.Given as goal
use Rattle.kube_manifests_matching.specs.Labels.{has_labels}
use Rattle.serde_json.specs.View.{members_view, view}
use Rattle.std.proofs.Common.{◌≡◌}
use Rattle.std.specs.Option.{option_map}

abbrev pub invariant-loop-key : goal.invariant-loop-key
invariant-loop-key l =
    has_labels (option_map (λ v. view v.now) l.labels) (members_view l.wanted.entries)
    ≡ has_labels (option_map (λ v. view v.now) l.labels) (members_view l.key-iterator)
