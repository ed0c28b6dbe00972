use Rattle.kube_server_laws.proofs.Pairs.{transform_list_law}
use Rattle.kube_server_laws.proofs.laws.transform_list.Goals as goal

pub returns : goal.returns
returns c = transform_list_law
