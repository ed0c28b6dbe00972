use Rattle.kube_cel_laws.proofs.Passes.{answer_passes, report_passes}
use Rattle.kube_cel_laws.proofs.laws.a_pass_needs_no_book.Goals as goal

pub returns-clause-no_more : goal.returns-clause-no_more
returns-clause-no_more g c strict lenient no_more form is = answer_passes strict lenient no_more form is 65

pub returns-clause-plain : goal.returns-clause-plain
returns-clause-plain g c plain is_plain form is root = report_passes plain is_plain form is root
