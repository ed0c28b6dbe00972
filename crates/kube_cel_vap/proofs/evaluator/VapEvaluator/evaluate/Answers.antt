use Rattle.kube_cel_vap.specs.Validations.{expression_view}
use Rattle.kube_cel_vap.proofs.evaluator.VapEvaluator.evaluate.Goals as goal
use Rattle.kube_cel_vap.proofs.Results.{results_of_compiled}
use Rattle.kube_cel_vap.specs.Expressions.{compiled_seen}
use Rattle.kube_cel_vap.specs.Results.{compiled_results}
use Rattle.kube_cel_vap.specs.Variables.{evaluator_view}
use Rattle.std.proofs.Common.{map, ap, ◌∙◌}

pub returns : goal.returns
returns c = record {
  results =
      let v = evaluator_view c.args.self.now in
      let reported = c.in_ok-results.ensures.results in (
        reported.0,
        reported.1,
        reported.2 ∙ ap (λ cs. compiled_results reported.0 v (map compiled_seen cs)) c.as_slice.ensures.value
            ∙ ap (compiled_results reported.0 v) c.in_ok-compiled.ensures.compiled ∙ results_of_compiled reported.0 v (map expression_view c.args.expressions.now),
      );
}
