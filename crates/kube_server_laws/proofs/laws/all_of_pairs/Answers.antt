use Rattle.kube_server_laws.proofs.Pairs.{all_law}
use Rattle.kube_server_laws.proofs.laws.all_of_pairs.Goals as goal

pub returns : goal.returns
returns c = all_law
