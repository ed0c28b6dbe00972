use Rattle.std.proofs.Common.{map}
use Rattle.kube_cel_analysis.proofs.scope.check_expression_scope.Goals as goal
use Rattle.kube_cel_analysis.specs.Warnings.{remark_view}

pub returns-clause-warnings : goal.returns-clause-warnings
returns-clause-warnings c = (map remark_view c.in_ok-remarks.remarks.items, c.in_ok-remarks.ensures.remarks, c.in_ok-warnings.ensures)
