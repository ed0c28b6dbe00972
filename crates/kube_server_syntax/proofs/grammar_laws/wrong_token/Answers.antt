use Rattle.kube_server_syntax.proofs.Complete.{wrong_token}
use Rattle.kube_server_syntax.proofs.grammar_laws.wrong_token.Goals as goal

pub returns : goal.returns
returns c = wrong_token
