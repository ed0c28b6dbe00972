use Rattle.std.proofs.Common.{◌≡◌, map, drop}
use Rattle.cel_value.specs.View.{view}
use Rattle.kube_functions_strings.specs.Joins as spec
use Rattle.kube_functions_strings.proofs.Joining.{all_before}
use Rattle.kube_functions_strings.proofs.joins.texts_of.Given as goal

abbrev pub invariant-loop-item : goal.invariant-loop-item
invariant-loop-item l = spec.texts_of (map view l.items) ≡ all_before (map (λ s. s.now) l.texts.items) (spec.texts_of (map view (drop l.item-index l.items)))
