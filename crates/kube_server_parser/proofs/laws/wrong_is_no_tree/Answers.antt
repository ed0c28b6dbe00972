use Rattle.kube_server_parser.proofs.Cuts.{no_tree}
use Rattle.kube_server_parser.proofs.laws.wrong_is_no_tree.Goals as goal

pub returns : goal.returns
returns c = no_tree
