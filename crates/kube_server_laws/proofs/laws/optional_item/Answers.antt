use Rattle.kube_server_laws.proofs.Functions.{optional_item}
use Rattle.kube_server_laws.proofs.laws.optional_item.Goals as goal

pub returns : goal.returns
returns c = optional_item
