use Rattle.kube_server_functions.proofs.Others.{stays_known}
use Rattle.kube_server_functions.proofs.laws.known_calls_stay_known.Goals as goal

pub returns : goal.returns
returns c = stays_known
