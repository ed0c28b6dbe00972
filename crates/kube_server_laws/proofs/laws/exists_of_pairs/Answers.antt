use Rattle.kube_server_laws.proofs.Pairs.{exists_law}
use Rattle.kube_server_laws.proofs.laws.exists_of_pairs.Goals as goal

pub returns : goal.returns
returns c = exists_law
