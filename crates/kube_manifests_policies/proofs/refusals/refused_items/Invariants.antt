use Rattle.kube_manifests_documents.specs.Policies.{item_view}
use Rattle.kube_manifests_names.specs.Names.{names_view}
use Rattle.kube_manifests_policies.proofs.refusals.refused_items.Given as goal
use Rattle.kube_manifests_policies.specs.Refusals.{refused_item}
use Rattle.kube_manifests_policies.specs.Verdicts.{result_view}
use Rattle.std.proofs.Common.{◌≡◌, flat_map, map, take}

abbrev pub invariant-loop-item : goal.invariant-loop-item
invariant-loop-item l = map result_view l.refused.items ≡ flat_map (refused_item (names_view l.names)) (map item_view (take l.item-index l.items))
