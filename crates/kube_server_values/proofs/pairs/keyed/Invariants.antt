use Rattle.std.proofs.Common.{◌≡◌, ◌++◌, map}
use Rattle.cel_value.specs.View.{view, entries_view}
use Rattle.kube_server_values.specs.Pairs.{keyed}
use Rattle.kube_server_values.proofs.pairs.keyed.Given as goal

abbrev pub invariant-loop-key : goal.invariant-loop-key
invariant-loop-key l = map view l.pairs.items ++ keyed (entries_view l.key-iterator) ≡ keyed l.entries
