use Rattle.kube_cel.proofs.Same.{tree_places, tree_leads}
use Rattle.kube_cel.proofs.laws.the_tree_has_the_same_places.Goals as goal

pub returns-clause-places : goal.returns-clause-places
returns-clause-places c = tree_places

pub returns-clause-visits : goal.returns-clause-visits
returns-clause-visits c = λ n s p. tree_leads n p s
