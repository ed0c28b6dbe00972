use Rattle.kube_cel_vap.specs.Validations.{expression_view}
use Rattle.kube_cel_vap.proofs.evaluator.VapEvaluator.compile_expressions.Given as goal
use Rattle.kube_cel_vap.specs.Expressions.{compile_result, compiled_seen}
use Rattle.std.proofs.Common.{◌≡◌, map, take}

abbrev pub invariant-loop-expression : goal.invariant-loop-expression
invariant-loop-expression l = map compiled_seen l.all.items ≡ map compile_result (map expression_view (take l.expression-index l.expressions))
