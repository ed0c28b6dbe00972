use Rattle.std.proofs.Common.{◌≡◌, IfOk, arith, sym, subst}
use Rattle.cel_value.specs.View.{view}
use Rattle.cel_semantics.specs.Outcome.{outcome_view}
use Rattle.cel_stdlib.specs.Extremes as spec
use Rattle.cel_stdlib.proofs.Leading.{among_more}
use Rattle.cel_stdlib.proofs.extremes.extreme_from.Goals as goal

pub returns-in_default : goal.returns-in_default
returns-in_default c = record {
  value =
      let more = among_more (view c.args.first.now) c.args.rest.now (omega (arith, c.in_default.len_at_least)) in
      subst (λ vs. IfOk c.least_or_greatest-in_default.result (λ r. outcome_view r ≡ spec.extreme_of c.args.end vs)) (sym more) c.least_or_greatest-in_default.ensures.value;
}
