use Rattle.cel_semantics.proofs.Items.{lent_item}
use Rattle.kube_server_functions.proofs.operands.nth.Goals as goal

pub returns : goal.returns
returns c = lent_item _ _ _ c.get.ensures.lookup
