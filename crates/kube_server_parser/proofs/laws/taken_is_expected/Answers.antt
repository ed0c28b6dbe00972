use Rattle.kube_server_parser.proofs.Told.{taken_is_described}
use Rattle.kube_server_parser.proofs.laws.taken_is_expected.Goals as goal

pub returns : goal.returns
returns c = taken_is_described
