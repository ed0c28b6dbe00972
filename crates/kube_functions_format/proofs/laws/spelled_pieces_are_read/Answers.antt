use Rattle.kube_functions_format.proofs.Spelled.{spelled_pieces_are_read}
use Rattle.kube_functions_format.proofs.laws.spelled_pieces_are_read.Goals as goal

pub returns : goal.returns
returns c = spelled_pieces_are_read
