use Rattle.kube_cel.proofs.UnderBooks.{answer_same, plain_same}
use Rattle.kube_cel.proofs.laws.books_that_refuse_alike_give_one_list.Goals as goal

pub returns-clause-alike : goal.returns-clause-alike
returns-clause-alike g c a b alike form is root = answer_same a b alike form is 65 root

pub returns-clause-plain : goal.returns-clause-plain
returns-clause-plain g c = plain_same
