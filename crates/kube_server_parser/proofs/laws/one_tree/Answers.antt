use Rattle.kube_server_parser.proofs.Cuts.{one_tree}
use Rattle.kube_server_parser.proofs.laws.one_tree.Goals as goal

pub returns : goal.returns
returns c = one_tree
