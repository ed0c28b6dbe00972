use Rattle.kube_server_syntax.proofs.Depth.{as_deep}
use Rattle.kube_server_syntax.proofs.grammar_laws.as_deep.Goals as goal

pub returns : goal.returns
returns c = as_deep
