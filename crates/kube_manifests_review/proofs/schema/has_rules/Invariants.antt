use Rattle.std.proofs.Common.{◌≡◌, map, drop}
use Rattle.std.specs.List.{list_any}
use Rattle.kube_manifests_review.specs.Locations.{location_view}
use Rattle.kube_manifests_review.specs.Reviewed.{has_rules}
use Rattle.kube_manifests_review.proofs.schema.has_rules.Given as goal

abbrev pub invariant-loop-location : goal.invariant-loop-location
invariant-loop-location l = list_any has_rules (map location_view l.locations) ≡ list_any has_rules (map location_view (drop l.location-index l.locations))
