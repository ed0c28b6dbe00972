use Rattle.kube_cel_laws.proofs.Books.{plain_refuses_least}
use Rattle.kube_cel_laws.proofs.laws.a_plain_book_refuses_least.Goals as goal

pub returns : goal.returns
returns c = plain_refuses_least
