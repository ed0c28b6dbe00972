use Rattle.cel_syntax.proofs.Complete.{complete_parse}
use Rattle.cel_syntax.proofs.Sound.{sound_parse}
use Rattle.cel_syntax.proofs.laws.tree_is_grammar.Goals as goal

pub returns : goal.returns
returns c = record { complete = complete_parse; sound = sound_parse }
