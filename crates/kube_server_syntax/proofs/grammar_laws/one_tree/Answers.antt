use Rattle.kube_server_syntax.proofs.Complete.{one_tree}
use Rattle.kube_server_syntax.proofs.grammar_laws.one_tree.Goals as goal

pub returns : goal.returns
returns c = one_tree
