use Rattle.kube_functions.proofs.Kept.{form_is_kept, answer_is_kept}
use Rattle.kube_functions.proofs.laws.standard_calls_are_kept.Goals as goal

pub returns-clause-known : goal.returns-clause-known
returns-clause-known c = form_is_kept

pub returns-clause-answers : goal.returns-clause-answers
returns-clause-answers c = answer_is_kept
