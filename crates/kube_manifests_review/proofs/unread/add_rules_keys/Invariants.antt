use Rattle.std.proofs.Common.{◌≡◌, ◌++◌, map, drop}
use Rattle.kube_manifests_review.specs.Candidates.{candidate_view}
use Rattle.kube_manifests_review.specs.Unread.{rules_unread}
use Rattle.kube_manifests_review.proofs.unread.add_rules_keys.Given as goal
use Rattle.serde_json.specs.View.{items_view}

-- the candidates so far, followed by those of the remaining rules
abbrev pub invariant-loop-index : goal.invariant-loop-index
invariant-loop-index l =
    map candidate_view l.candidates.items ++ rules_unread l.pointer l.index (items_view (drop l.index l.rules))
    ≡ map candidate_view l.fn.candidates.items ++ rules_unread l.pointer 0 (items_view l.rules)
