use Rattle.std.proofs.Common.{◌≡◌, map, drop, is_some}
use Rattle.std.specs.List.{list_all}
use Rattle.cel_value.specs.Parts.{number_in}
use Rattle.cel_value.specs.View.{view}
use Rattle.kube_functions_lists.proofs.math.are_numbers.Given as goal

abbrev pub invariant-loop-value : goal.invariant-loop-value
invariant-loop-value l = list_all (λ v. is_some (number_in v)) (map view l.values) ≡ list_all (λ v. is_some (number_in v)) (map view (drop l.value-index l.values))
