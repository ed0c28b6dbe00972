use Rattle.cel_syntax.proofs.Trees.{complete_text, sound_text}
use Rattle.cel_syntax.proofs.laws.tree_is_derived.Goals as goal

pub returns : goal.returns
returns c = record { complete = complete_text; sound = sound_text }
