use Rattle.kube_server_syntax.proofs.Complete.{complete}
use Rattle.kube_server_syntax.proofs.Sound.{sound}
use Rattle.kube_server_syntax.proofs.grammar_laws.reading_is_the_grammar.Goals as goal

pub returns : goal.returns
returns c = record { complete = complete; sound = sound }
