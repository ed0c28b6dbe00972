use Rattle.kube_functions.proofs.Alike.{plain_alike}
use Rattle.kube_functions.proofs.UnderBooks.{means_same}
use Rattle.kube_functions.proofs.laws.books_that_refuse_alike_mean_the_same.Goals as goal

pub returns-clause-alike : goal.returns-clause-alike
returns-clause-alike c functions a b alike = means_same a b alike functions

pub returns-clause-plain : goal.returns-clause-plain
returns-clause-plain c functions a b is_a is_b plain_a plain_b = means_same a b (plain_alike a b is_a is_b plain_a plain_b) functions
