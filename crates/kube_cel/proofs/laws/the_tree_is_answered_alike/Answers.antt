use Rattle.kube_cel.proofs.Same.{tree_answers}
use Rattle.kube_cel.proofs.laws.the_tree_is_answered_alike.Goals as goal

pub returns : goal.returns
returns g c = tree_answers
