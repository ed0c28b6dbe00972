use Rattle.std.proofs.Common.{◌≡◌, ◌+◌, ◌*◌, ◌++◌, map, drop, string_bytes}
use Rattle.kube_manifests_review.specs.Locations.{item_locations, named_locations, location_view, locations_of}
use Rattle.kube_manifests_review.proofs.locations.+locations.Given as goal
use Rattle.serde_json.specs.View.{items_view, members_view}

abbrev pub decreases-add_locations : goal.decreases-add_locations
decreases-add_locations l = 3 * l.levels

abbrev pub decreases-add_within : goal.decreases-add_within
decreases-add_within l = 3 * l.levels + 2

abbrev pub decreases-add_unread : goal.decreases-add_unread
decreases-add_unread l = 3 * l.levels + 2

abbrev pub decreases-add_names : goal.decreases-add_names
decreases-add_names l = 3 * l.levels + 1

abbrev pub decreases-add_maybe : goal.decreases-add_maybe
decreases-add_maybe l = 3 * l.levels + 1

abbrev pub decreases-add_branches : goal.decreases-add_branches
decreases-add_branches l = 3 * l.levels + 1

-- the locations so far, followed by those within the remaining members
abbrev pub invariant-add_names-loop-key : goal.invariant-add_names-loop-key
invariant-add_names-loop-key l =
    map location_view l.locations.items ++ named_locations (locations_of l.levels l.is_read) (string_bytes l.inner) (members_view l.key-iterator)
    ≡ map location_view l.fn.locations.items ++ named_locations (locations_of l.levels l.is_read) (string_bytes l.inner) (members_view l.initial.key-iterator)

-- the locations so far, followed by those within the remaining branches
abbrev pub invariant-add_branches-loop-index : goal.invariant-add_branches-loop-index
invariant-add_branches-loop-index l =
    map location_view l.locations.items ++ item_locations (locations_of l.levels l.is_read) (string_bytes l.inner) l.index (items_view (drop l.index l.item-items))
    ≡ map location_view l.fn.locations.items ++ item_locations (locations_of l.levels l.is_read) (string_bytes l.inner) 0 (items_view l.item-items)
