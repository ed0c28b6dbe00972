use Rattle.kube_functions.proofs.Alike.{plain_refuses, plain_alike}
use Rattle.kube_functions.proofs.laws.plain_books_refuse_what_is_no_pattern.Goals as goal

pub returns-clause-refused : goal.returns-clause-refused
returns-clause-refused c = plain_refuses

pub returns-clause-alike : goal.returns-clause-alike
returns-clause-alike c = plain_alike
