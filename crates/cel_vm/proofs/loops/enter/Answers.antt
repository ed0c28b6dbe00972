use Rattle.std.proofs.Common.{◌<◌, length, map, ap, arith}
use Rattle.std.proofs.lemmas.List.{length-map}
use Rattle.cel_value.specs.View.{view}
use Rattle.cel_semantics.specs.Ranges.{range_list}
use Rattle.cel_vm.specs.State.{values_of, pending_of, loops_of}
use Rattle.cel_vm.proofs.Rounds.{enter_inside}
use Rattle.cel_vm.proofs.loops.enter.Goals as goal

pub returns-in_ok-push_pending : goal.returns-in_ok-push_pending
returns-in_ok-push_pending c = record {
  value = λ size lim.
      let s = c.args.stacks.now in
      let ds = range_list c.args.range in
      let xs = c.as_slice-count.result.now in
      let some : 0 < length ds = omega (arith, c.if-count-eq0.false, length-map xs view, ap length c.as_slice-count.ensures) in
      enter_inside size c.args.end c.args.pc c.args.offset c.args.kind ds (map view c.new-results.result.items) (values_of s) (pending_of s) _ (loops_of s) _ (ap (map view) c.new-results.ensures.items) some
      (omega (arith, c.if-offset-end.true, c.requires)) (omega (arith, c.if-offset-eq0.false)) c.in_ok-push_loop.ensures c.in_ok-push_pending.ensures lim;
}
