use Rattle.cel.specs.Checks.{check_view, judgement}
use Rattle.cel_patterns.proofs.Books.{Extends-trans}
use Rattle.cel.specs.Bindings.{bindings_of}
use Rattle.kube_cel_vap.proofs.expression_results.judged.Goals as goal
use Rattle.kube_cel_vap.specs.Results.{outcome_in}
use Rattle.std.proofs.Common.{option_map, ap, ◌∙◌}
use Rattle.std.proofs.lemmas.Result.{IfOk-weaker}

pub returns-clause-judged : goal.returns-clause-judged
unfolding outcome_in
returns-clause-judged c =
    let message = (check_view c.args.check.now).message_tree in
    IfOk-weaker c.judge.result _ _ (λ j found. record {
      under = λ b h.
          found.under b h
          ∙ ap (judgement (option_map (outcome_in b (bindings_of c.args.context.now)) message)) (c.in_ok-outcome.ensures.value.under b (Extends-trans h c.judge.ensures.keeps));
    }) c.judge.ensures.judged
