use Rattle.std.proofs.Common.{Ok, Some, ap}
use Rattle.cel_syntax_ast.specs.declared.expr.MacroKind.TheVariants.{Map}
use Rattle.cel_value.specs.Faults.{fault_view}
use Rattle.cel_value.specs.View.{view}
use Rattle.cel_semantics.specs.Outcome.{and_then, outcome_view}
use Rattle.cel_vm.specs.State.{values_of, pending_of, loops_of, loops_view}
use Rattle.cel_vm.proofs.Rounds.{collect_stops, collect_more}
use Rattle.cel_vm.proofs.loops.take_image.Goals as goal

pub returns-in_ok-close-in-Err : goal.returns-in_ok-close-in-Err
returns-in_ok-close-in-Err c = record {
  value = λ body k ab l ls a o s f.
      let t = c.in_ok-close-in-Err.ensures k ab l ls a o in
      collect_stops c.in_ok-close-in-Err.field-0 Map c.args.pc body (and_then (outcome_view c.args.answer) (λ v. Ok (Some v))) (fault_view c.in-Err.e) k (values_of c.args.stacks.now) _ ab _ l ls _
      (ap (λ z. and_then (outcome_view z) (λ v. Ok (Some v))) c.in-Err.is) t.0 t.1 t.2 t.3;
}

pub returns-in_ok-give-in-Ok : goal.returns-in_ok-give-in-Ok
returns-in_ok-give-in-Ok c = record {
  value =
      let t = c.args.stacks.now in
      collect_more c.next_item.result Map c.args.pc (and_then (outcome_view c.args.answer) (λ v. Ok (Some v))) (view c.in-Ok.image) (values_of t) _ (pending_of t) _ (loops_of t) (loops_view c.give.new.loops.items) _
      (ap (λ z. and_then (outcome_view z) (λ v. Ok (Some v))) c.in-Ok.is) c.in_ok-give-in-Ok.ensures c.next_item.ensures.value;
}
