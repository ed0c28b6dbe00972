use Rattle.kube_manifests_bindings.proofs.binding.actions_of.Given as goal
use Rattle.kube_manifests_bindings.specs.Bindings.{actions_after, actions_view, no_actions}
use Rattle.serde_json.specs.View.{items_view}
use Rattle.std.proofs.Common.{◌≡◌, drop}

abbrev pub invariant-loop-index : goal.invariant-loop-index
invariant-loop-index l =
    actions_after no_actions 0 (items_view l.items)
    ≡ actions_after (actions_view l.actions) l.index (items_view (drop l.index l.items))
