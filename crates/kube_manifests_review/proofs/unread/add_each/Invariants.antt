use Rattle.std.proofs.Common.{◌≡◌, ◌++◌, map, drop}
use Rattle.std.specs.List.{flat_map}
use Rattle.kube_manifests_review.specs.Candidates.{candidate_view}
use Rattle.kube_manifests_review.specs.Locations.{location_view}
use Rattle.kube_manifests_review.specs.Unread.{location_unread}
use Rattle.kube_manifests_review.proofs.unread.add_each.Given as goal

-- the candidates so far, followed by those of the remaining schemas
abbrev pub invariant-loop-location : goal.invariant-loop-location
invariant-loop-location l =
    map candidate_view l.candidates.items ++ flat_map location_unread (map location_view (drop l.location-index l.locations))
    ≡ map candidate_view l.fn.candidates.items ++ flat_map location_unread (map location_view l.locations)
