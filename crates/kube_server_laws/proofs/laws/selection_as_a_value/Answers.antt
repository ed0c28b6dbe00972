use Rattle.kube_server_laws.proofs.Values.{selection_value}
use Rattle.kube_server_laws.proofs.laws.selection_as_a_value.Goals as goal

pub returns : goal.returns
returns c = selection_value
