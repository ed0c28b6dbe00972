use Rattle.kube_functions_lists.proofs.Lent.{lent_last}
use Rattle.kube_functions_lists.proofs.lists.last_of.Goals as goal

pub returns : goal.returns
returns c = lent_last _ _ c.last.ensures.item
