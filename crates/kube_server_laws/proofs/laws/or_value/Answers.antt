use Rattle.kube_server_laws.proofs.Optionals.{or_value_law}
use Rattle.kube_server_laws.proofs.laws.or_value.Goals as goal

pub returns : goal.returns
returns c = or_value_law
