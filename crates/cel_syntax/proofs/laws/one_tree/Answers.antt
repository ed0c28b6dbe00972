use Rattle.cel_syntax.proofs.Complete.{one_tree}
use Rattle.cel_syntax.proofs.laws.one_tree.Goals as goal

pub returns : goal.returns
returns c = one_tree
