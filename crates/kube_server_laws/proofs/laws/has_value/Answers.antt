use Rattle.kube_server_laws.proofs.Methods.{has_value_law}
use Rattle.kube_server_laws.proofs.laws.has_value.Goals as goal

pub returns : goal.returns
returns c = has_value_law
