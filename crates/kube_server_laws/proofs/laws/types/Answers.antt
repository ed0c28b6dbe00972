use Rattle.kube_server_laws.proofs.Functions.{type_is}
use Rattle.kube_server_laws.proofs.laws.types.Goals as goal

pub returns : goal.returns
returns c = type_is
