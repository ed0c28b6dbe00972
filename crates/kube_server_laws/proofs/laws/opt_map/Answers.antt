use Rattle.kube_server_laws.proofs.Optionals.{opt_map_error, opt_map_of_none, opt_map_of_some}
use Rattle.kube_server_laws.proofs.laws.opt_map.Goals as goal

pub returns : goal.returns
returns c = record { of_none = opt_map_of_none; of_some = opt_map_of_some; of_error = opt_map_error }
