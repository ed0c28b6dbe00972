use Rattle.kube_server_laws.proofs.Values.{flat_map_of_none, flat_map_of_some}
use Rattle.kube_server_laws.proofs.laws.opt_flat_map.Goals as goal

pub returns : goal.returns
returns c = record { of_none = flat_map_of_none; of_some = flat_map_of_some }
