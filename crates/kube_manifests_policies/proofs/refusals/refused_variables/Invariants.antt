use Rattle.kube_manifests_documents.specs.Policies.{item_view}
use Rattle.kube_manifests_policies.proofs.Labels.{HasLabels}
use Rattle.kube_manifests_policies.proofs.refusals.refused_variables.Given as goal
use Rattle.kube_manifests_policies.specs.Refusals.{refused_variables}
use Rattle.kube_manifests_policies.specs.Verdicts.{result_view}
use Rattle.std.proofs.Common.{◌≡◌, ◌++◌, [], drop, map, take}

abbrev pub invariant-loop-item : goal.invariant-loop-item
invariant-loop-item l = record {
  names : HasLabels l.before (map item_view (take l.item-index l.items));
  refused : map result_view l.refused.items
      ++ refused_variables l.params (map item_view (take l.item-index l.items)) (map item_view (drop l.item-index l.items))
      ≡ refused_variables l.params [] (map item_view l.items);
}
