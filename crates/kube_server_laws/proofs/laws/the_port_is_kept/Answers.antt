use Rattle.kube_server_laws.proofs.Port.{port_trees_stay}
use Rattle.kube_server_laws.proofs.laws.the_port_is_kept.Goals as goal

pub returns : goal.returns
returns c = port_trees_stay
