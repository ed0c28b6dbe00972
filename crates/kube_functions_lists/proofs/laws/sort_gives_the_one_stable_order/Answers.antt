use Rattle.kube_functions_lists.proofs.Classes.{ascends, stays, one_ascending}
use Rattle.kube_functions_lists.proofs.laws.sort_gives_the_one_stable_order.Goals as goal

pub returns-clause-ascends : goal.returns-clause-ascends
returns-clause-ascends c = ascends

pub returns-clause-stable : goal.returns-clause-stable
returns-clause-stable c = stays

pub returns-clause-one : goal.returns-clause-one
returns-clause-one c = one_ascending
