use Rattle.kube_server_patterns_laws.proofs.Characters.{characters_read}
use Rattle.kube_server_patterns_laws.proofs.laws.characters.Goals as goal

pub returns : goal.returns
returns c = characters_read
