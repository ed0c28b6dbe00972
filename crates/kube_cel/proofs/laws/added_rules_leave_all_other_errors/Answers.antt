use Rattle.kube_cel.proofs.AddedAnswers.{adds_alone}
use Rattle.kube_cel.proofs.laws.added_rules_leave_all_other_errors.Goals as goal

pub returns : goal.returns
returns c = adds_alone
