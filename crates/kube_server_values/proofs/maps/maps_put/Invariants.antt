use Rattle.std.proofs.Common.{◌≡◌, drop}
use Rattle.cel_value.specs.Data.{map_of, no_entries}
use Rattle.cel_value.specs.View.{view, items_view}
use Rattle.kube_server_values.specs.Maps.{added_by, put_map}
use Rattle.kube_server_values.proofs.maps.maps_put.Given as goal

abbrev pub invariant-loop-other : goal.invariant-loop-other
invariant-loop-other l = added_by put_map (view l.map) (items_view (drop l.other-index l.maps)) ≡ added_by put_map (map_of no_entries) (items_view l.maps)
