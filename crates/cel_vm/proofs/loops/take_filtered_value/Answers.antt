use Rattle.std.proofs.Common.{Some, true, ap, ◌∙◌}
use Rattle.cel_vm.specs.Machine.{after_filter}
use Rattle.cel_vm.specs.State.{values_of, pending_of, loops_of}
use Rattle.cel_vm.proofs.Rounds.{advances_same}
use Rattle.cel_vm.proofs.loops.take_filtered_value.Goals as goal

pub returns-in-Some : goal.returns-in-Some
returns-in-Some c = record {
  value =
      let t = c.args.stacks.now in
      advances_same c.gather.result c.args.pc _ (pending_of t) _ (loops_of t) _ _ _
      (λ k ab l ls.
      ap (λ z. after_filter c.args.pc z (values_of t) k ab l ls) (c.in-Some-true.is ∙ ap Some c.in-Some-true.field-0-test)
      ∙ ap (λ vs. after_filter c.args.pc (Some true) vs k ab l ls) c.in-Some.ensures)
      c.gather.ensures.value;
}

pub returns-in-Some-false : goal.returns-in-Some-false
returns-in-Some-false c = record {
  value =
      let t = c.args.stacks.now in
      advances_same c.gather-in-Some-false.result c.args.pc _ (pending_of t) _ (loops_of t) _ _ _
      (λ k ab l ls. ap (λ z. after_filter c.args.pc z (values_of t) k ab l ls) (c.in-Some-false.is ∙ ap Some c.in-Some-false.field-0-test))
      c.gather-in-Some-false.ensures.value;
}
