use Rattle.std.proofs.Common.{◌≡◌}
use Rattle.cel_value.specs.View.{view, entries_view}
use Rattle.kube_server_values.specs.Maps.{put_entries}
use Rattle.kube_server_values.proofs.maps.put_entries.Given as goal

abbrev pub invariant-loop-key : goal.invariant-loop-key
invariant-loop-key l = put_entries (view l.map) (entries_view l.key-iterator) ≡ put_entries (view l.fn.before) l.entries
