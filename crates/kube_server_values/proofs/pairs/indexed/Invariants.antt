use Rattle.std.proofs.Common.{◌≡◌, ◌++◌, map, drop}
use Rattle.cel_value.specs.View.{view, items_view}
use Rattle.kube_server_values.specs.Pairs.{indexed}
use Rattle.kube_server_values.proofs.pairs.indexed.Given as goal

abbrev pub invariant-loop-index : goal.invariant-loop-index
invariant-loop-index l = map view l.pairs.items ++ indexed l.index (items_view (drop l.index l.items)) ≡ indexed 0 (items_view l.items)
