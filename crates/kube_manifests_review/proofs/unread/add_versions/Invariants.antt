use Rattle.std.proofs.Common.{◌≡◌, ◌++◌, map, drop}
use Rattle.kube_manifests_review.specs.Candidates.{candidate_view}
use Rattle.kube_manifests_review.specs.Unread.{versions_unread}
use Rattle.kube_manifests_review.proofs.unread.add_versions.Given as goal
use Rattle.serde_json.specs.View.{items_view}

-- the candidates so far, followed by those of the remaining versions
abbrev pub invariant-loop-index : goal.invariant-loop-index
invariant-loop-index l =
    map candidate_view l.candidates.items ++ versions_unread l.index (items_view (drop l.index l.versions))
    ≡ map candidate_view l.fn.candidates.items ++ versions_unread 0 (items_view l.versions)
