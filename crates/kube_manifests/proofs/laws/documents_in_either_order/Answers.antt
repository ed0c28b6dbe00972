use Rattle.kube_manifests.proofs.Orders.{either_order}
use Rattle.kube_manifests.proofs.laws.documents_in_either_order.Goals as goal

pub returns : goal.returns
returns c = either_order
