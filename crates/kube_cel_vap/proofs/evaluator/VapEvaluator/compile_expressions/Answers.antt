use Rattle.kube_cel_vap.proofs.Listed.{one_more_seen}
use Rattle.kube_cel_vap.proofs.evaluator.VapEvaluator.compile_expressions.Goals as goal
use Rattle.kube_cel_vap.specs.Expressions.{compile_result, compiled_seen}
use Rattle.kube_cel_vap.specs.Validations.{expression_view}
use Rattle.std.proofs.Common.{◌<◌, length, arith}

pub loop-expression-preserved : goal.loop-expression-preserved
loop-expression-preserved c =
    let expressions = c.args.expressions.now in
    let below : c.loop-expression.expression-index < length expressions = omega arith in
    one_more_seen compiled_seen compile_result expression_view c.loop-expression.all.items c.push.new.self.items c.in_ok-compile_expression.field-0
    expressions c.loop-expression.expression-index c.expression-item.result c.in_ok-push.ensures.items c.loop-expression.invariant c.in_ok-compile_expression.ensures.compiled
    below c.expression-item.is
