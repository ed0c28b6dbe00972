use Rattle.cel_syntax.proofs.Trees.{one_tree}
use Rattle.cel_syntax.proofs.laws.text_derives_one_tree.Goals as goal

pub returns : goal.returns
returns c = one_tree
