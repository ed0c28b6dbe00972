use Rattle.std.proofs.Common.{◌∷◌}
use Rattle.kube_functions_strings.proofs.FromLeft.{are_from_left, empty_separators, one_from_left}
use Rattle.kube_functions_strings.specs.Pieces.{separators}
use Rattle.kube_functions_strings.proofs.laws.separators_stand_from_the_left.Goals as goal

pub returns-clause-from_left : goal.returns-clause-from_left
returns-clause-from_left c text part first = are_from_left text first part

pub returns-clause-no_others : goal.returns-clause-no_others
returns-clause-no_others c text part first spans h = one_from_left text (first ∷ part) 0 spans (separators text (first ∷ part)) h (are_from_left text first part)

pub returns-clause-empty : goal.returns-clause-empty
returns-clause-empty c = empty_separators
