use Rattle.std.proofs.Common.{◌≡◌, map, drop}
use Rattle.std.specs.List.{list_any}
use Rattle.cel_value.specs.Same.{has_double}
use Rattle.cel_value.specs.View.{view}
use Rattle.cel_semantics.proofs.calls.any_holds_double.Given as goal

abbrev pub invariant-loop-value : goal.invariant-loop-value
invariant-loop-value l = list_any has_double (map view l.args) ≡ list_any has_double (map view (drop l.value-index l.args))
