use Rattle.kube_server_laws.proofs.Members.{through_none, through_map, through_error}
use Rattle.kube_server_laws.proofs.laws.selection_goes_through.Goals as goal

pub returns : goal.returns
returns c = record { of_none = through_none; of_map = through_map; of_error = through_error }
