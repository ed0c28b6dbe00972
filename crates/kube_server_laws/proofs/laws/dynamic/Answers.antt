use Rattle.kube_server_laws.proofs.Values.{dyn_law}
use Rattle.kube_server_laws.proofs.laws.dynamic.Goals as goal

pub returns : goal.returns
returns c = dyn_law
