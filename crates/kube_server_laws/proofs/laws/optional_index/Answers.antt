use Rattle.kube_server_laws.proofs.Values.{optional_index}
use Rattle.kube_server_laws.proofs.laws.optional_index.Goals as goal

pub returns : goal.returns
returns c = optional_index
