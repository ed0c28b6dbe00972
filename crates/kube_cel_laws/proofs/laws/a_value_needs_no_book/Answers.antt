use Rattle.kube_cel_laws.proofs.Books.{plain_refuses_least}
use Rattle.kube_cel_laws.proofs.Functions.{value_kept}
use Rattle.kube_cel_laws.proofs.laws.a_value_needs_no_book.Goals as goal

pub returns-clause-no_more : goal.returns-clause-no_more
returns-clause-no_more c functions strict lenient no_more = value_kept strict lenient no_more functions

pub returns-clause-plain : goal.returns-clause-plain
returns-clause-plain c functions book plain is_book is_plain = value_kept book plain (plain_refuses_least plain book is_plain is_book) functions
