use Rattle.kube_cel.proofs.UnderBooks.{under_plain}
use Rattle.kube_cel.proofs.laws.a_plain_lent_book_gives_the_plain_list.Goals as goal

pub returns : goal.returns
returns g c = under_plain
