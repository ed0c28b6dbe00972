use Rattle.std.proofs.Common.{◌≡◌, drop}
use Rattle.cel_value.specs.Data.{map_of, no_entries}
use Rattle.cel_value.specs.View.{view, items_view}
use Rattle.kube_server_values.specs.Maps.{added_by, put_pair}
use Rattle.kube_server_values.proofs.maps.pairs_put.Given as goal

abbrev pub invariant-loop-pair : goal.invariant-loop-pair
invariant-loop-pair l = added_by put_pair (view l.map) (items_view (drop l.pair-index l.pairs)) ≡ added_by put_pair (map_of no_entries) (items_view l.pairs)
