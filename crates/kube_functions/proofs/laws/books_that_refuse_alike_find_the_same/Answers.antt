use Rattle.kube_functions.proofs.Alike.{matched_by-alike, found_by-alike}
use Rattle.kube_functions.proofs.laws.books_that_refuse_alike_find_the_same.Goals as goal

pub returns-clause-matches : goal.returns-clause-matches
returns-clause-matches c = matched_by-alike

pub returns-clause-spans : goal.returns-clause-spans
returns-clause-spans c = found_by-alike
