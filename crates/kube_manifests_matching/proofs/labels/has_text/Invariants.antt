use Rattle.kube_manifests_matching.proofs.labels.has_text.Given as goal
use Rattle.kube_manifests_matching.specs.Labels.{has_text}
use Rattle.serde_json.specs.View.{items_view}
use Rattle.std.proofs.Common.{◌≡◌, drop}

abbrev pub invariant-loop-item : goal.invariant-loop-item
invariant-loop-item l = has_text (items_view l.items) l.text ≡ has_text (items_view (drop l.item-index l.items)) l.text
