use Rattle.kube_server_syntax.proofs.Beginnings.{beginning}
use Rattle.kube_server_syntax.proofs.grammar_laws.beginning.Goals as goal

pub returns : goal.returns
returns c = beginning
