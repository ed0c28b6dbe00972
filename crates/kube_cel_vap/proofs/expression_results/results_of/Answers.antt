use Rattle.cel_patterns.proofs.Books.{Extends-trans}
use Rattle.cel.specs.Bindings.{bindings_of}
use Rattle.kube_cel_vap.specs.Validations.{result_view}
use Rattle.kube_cel_vap.proofs.expression_results.results_of.Goals as goal
use Rattle.kube_cel_vap.proofs.Listed.{one_more_seen}
use Rattle.kube_cel_vap.specs.Expressions.{compiled_seen}
use Rattle.kube_cel_vap.specs.Results.{compiled_result}
use Rattle.std.proofs.Common.{◌<◌, length, arith}

pub loop-one-preserved : goal.loop-one-preserved
loop-one-preserved c = record {
  keeps = Extends-trans c.in_ok-judged.ensures.keeps c.loop-one.invariant.keeps;
  reported = λ b h.
      let below : c.loop-one.one-index < length c.args.compiled.now = omega arith in
      one_more_seen result_view (compiled_result b (bindings_of c.args.context.now)) compiled_seen c.loop-one.results.items c.push.new.self.items c.in_ok-judged.judged
      c.args.compiled.now c.loop-one.one-index c.one-item.result c.in_ok-push.ensures.items
      (c.loop-one.invariant.reported b (Extends-trans h c.in_ok-judged.ensures.keeps)) (c.in_ok-judged.ensures.reported.under b h) below c.one-item.is;
}
