use Rattle.std.proofs.Common.{option_map}
use Rattle.cel_value.specs.Faults.{fault_view}
use Rattle.cel_semantics.specs.Outcome.{outcome_view}
use Rattle.cel_vm.specs.State.{values_of, pending_of, loops_of}
use Rattle.cel_vm.proofs.Rounds.{undeciding_open}
use Rattle.cel_vm.proofs.loops.take_outcome.Goals as goal

pub returns-in_ok-push_pending-in-Open : goal.returns-in_ok-push_pending-in-Open
returns-in_ok-push_pending-in-Open c = record {
  value =
      let t = c.args.stacks.now in
      undeciding_open c.next_item.result c.args.stop c.loop_text.result.now c.args.pc (outcome_view c.args.answer) (option_map fault_view c.in-Some.kept) _ c.in-Open.last (values_of t) _ (pending_of t) _ _ _ (loops_of t) _ c.loop_text.ensures c.in-Open.is c.in_ok-absorb-in-Some.ensures.value c.in-Some.ensures c.in_ok-push_pending-in-Open.ensures c.next_item.ensures.value;
}
