use Rattle.kube_functions_lists.proofs.InOrder.{equals_stay, in_order}
use Rattle.kube_functions_lists.proofs.laws.sorted_lists_are_in_order.Goals as goal

pub returns-clause-in_order : goal.returns-clause-in_order
returns-clause-in_order c = in_order

pub returns-clause-equals_stay : goal.returns-clause-equals_stay
returns-clause-equals_stay c = equals_stay
