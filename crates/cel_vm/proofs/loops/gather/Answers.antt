use Rattle.std.proofs.Common.{◌∙◌, Ok, ap}
use Rattle.cel_value.specs.Faults.{fault_view}
use Rattle.cel_value.specs.View.{view}
use Rattle.cel_semantics.specs.Macros.{iteration_result_view}
use Rattle.cel_vm.specs.State.{values_of, pending_of, loops_of, loops_view}
use Rattle.cel_vm.proofs.Rounds.{collect_stops, collect_nothing, collect_more}
use Rattle.cel_vm.proofs.loops.gather.Goals as goal

pub returns-in_ok-close-in-Err : goal.returns-in_ok-close-in-Err
returns-in_ok-close-in-Err c = record {
  value = λ body k ab l ls a o s f.
      let t = c.in_ok-close-in-Err.ensures k ab l ls a o in
      collect_stops c.in_ok-close-in-Err.field-0 c.args.kind c.args.pc body (iteration_result_view c.args.iteration_result) (fault_view c.in-Err.e) k (values_of c.args.stacks.now) _ ab _ l ls _ (ap iteration_result_view c.in-Err.is) t.0 t.1 t.2 t.3;
}

pub returns-in-Ok-None : goal.returns-in-Ok-None
returns-in-Ok-None c = record {
  value =
      let t = c.args.stacks.now in
      collect_nothing c.next_item.result c.args.kind c.args.pc (iteration_result_view c.args.iteration_result) (values_of t) _ (pending_of t) _ (loops_of t) _ (ap iteration_result_view (c.in-Ok-None.is ∙ ap Ok c.in-Ok-None.field-0-is)) c.next_item.ensures.value;
}

pub returns-in_ok-give-in-Ok-Some : goal.returns-in_ok-give-in-Ok-Some
returns-in_ok-give-in-Ok-Some c = record {
  value =
      let t = c.args.stacks.now in
      collect_more c.next_item-in-Ok-Some.result c.args.kind c.args.pc (iteration_result_view c.args.iteration_result) (view c.in-Ok-Some.value) (values_of t) _ (pending_of t) _ (loops_of t) (loops_view c.give.new.loops.items) _
      (ap iteration_result_view (c.in-Ok-Some.is ∙ ap Ok c.in-Ok-Some.field-0-is)) c.in_ok-give-in-Ok-Some.ensures c.next_item-in-Ok-Some.ensures.value;
}
