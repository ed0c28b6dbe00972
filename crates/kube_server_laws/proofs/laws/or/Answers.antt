use Rattle.kube_server_laws.proofs.Methods.{or_none_law, or_some_law}
use Rattle.kube_server_laws.proofs.laws.or.Goals as goal

pub returns : goal.returns
returns c = record { of_some = or_some_law; of_none = or_none_law }
