use Rattle.cel_vm.specs.State.{values_of, pending_of, loops_of}
use Rattle.cel_vm.proofs.Rounds.{advance_passes}
use Rattle.cel_vm.proofs.loops.advance.Goals as goal

pub returns-in-Some : goal.returns-in-Some
returns-in-Some c = record {
  value =
      let s = c.args.stacks.now in
      let e = c.in-Some.ensures in
      advance_passes c.next_item.result c.args.end.kind c.args.end.filtered c.in-Some.rule c.args.pc e.1 (values_of s) e.2 _ _ (pending_of s) _ (loops_of s) _ e.0 e.3 (c.drop_answer.ensures e.1 e.2 e.3) e.4 c.next_item.ensures.value;
}
