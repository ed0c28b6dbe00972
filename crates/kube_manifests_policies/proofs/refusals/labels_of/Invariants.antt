use Rattle.kube_manifests_documents.specs.Policies.{item_view}
use Rattle.kube_manifests_policies.proofs.Labels.{HasLabels}
use Rattle.kube_manifests_policies.proofs.refusals.labels_of.Given as goal
use Rattle.std.proofs.Common.{map, take}

abbrev pub invariant-loop-item : goal.invariant-loop-item
invariant-loop-item l = HasLabels l.names (map item_view (take l.item-index l.items))
