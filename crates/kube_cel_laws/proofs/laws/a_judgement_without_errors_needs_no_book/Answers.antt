use Rattle.kube_cel_laws.proofs.Judgements.{judged_plainly, judgement_passes}
use Rattle.kube_cel_laws.proofs.laws.a_judgement_without_errors_needs_no_book.Goals as goal

pub returns-clause-no_more : goal.returns-clause-no_more
returns-clause-no_more c strict lenient no_more versions value old = judgement_passes versions value old strict lenient no_more

pub returns-clause-plain : goal.returns-clause-plain
returns-clause-plain c plain is_book is_plain versions value old = judged_plainly versions value old plain is_book is_plain
