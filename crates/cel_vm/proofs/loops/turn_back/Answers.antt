use Rattle.std.proofs.Common.{◌∙◌, ap}
use Rattle.cel_syntax_ast.specs.declared.expr.MacroKind.TheVariants.{Map}
use Rattle.cel_semantics.specs.Outcome.{outcome_view}
use Rattle.cel_vm.specs.Machine.{after_iteration}
use Rattle.cel_vm.specs.State.{values_of, pending_of, loops_of}
use Rattle.cel_vm.proofs.Rounds.{advances_same}
use Rattle.cel_vm.proofs.loops.turn_back.Goals as goal

pub returns-in-All : goal.returns-in-All
returns-in-All c = record {
  value =
      let t = c.args.stacks.now in
      advances_same c.take_outcome.result c.args.pc _ (pending_of t) _ (loops_of t) _ _ _
      (λ k ab l ls. ap (λ z. after_iteration z c.args.end.filtered c.args.pc (outcome_view c.args.answer) (values_of t) k ab l ls) c.in-All.is)
      c.take_outcome.ensures.value;
}

pub returns-in-Exists : goal.returns-in-Exists
returns-in-Exists c = record {
  value =
      let t = c.args.stacks.now in
      advances_same c.take_outcome-in-Exists.result c.args.pc _ (pending_of t) _ (loops_of t) _ _ _
      (λ k ab l ls. ap (λ z. after_iteration z c.args.end.filtered c.args.pc (outcome_view c.args.answer) (values_of t) k ab l ls) c.in-Exists.is)
      c.take_outcome-in-Exists.ensures.value;
}

pub returns-in-ExistsOne : goal.returns-in-ExistsOne
returns-in-ExistsOne c = record {
  value =
      let t = c.args.stacks.now in
      advances_same c.collect.result c.args.pc _ (pending_of t) _ (loops_of t) _ _ _
      (λ k ab l ls. ap (λ z. after_iteration z c.args.end.filtered c.args.pc (outcome_view c.args.answer) (values_of t) k ab l ls) c.in-ExistsOne.is)
      c.collect.ensures.value;
}

pub returns-in-Filter : goal.returns-in-Filter
returns-in-Filter c = record {
  value =
      let t = c.args.stacks.now in
      advances_same c.collect-in-Filter.result c.args.pc _ (pending_of t) _ (loops_of t) _ _ _
      (λ k ab l ls. ap (λ z. after_iteration z c.args.end.filtered c.args.pc (outcome_view c.args.answer) (values_of t) k ab l ls) c.in-Filter.is)
      c.collect-in-Filter.ensures.value;
}

pub returns-then-end : goal.returns-then-end
returns-then-end c = record {
  value =
      let t = c.args.stacks.now in
      advances_same c.take_filtered.result c.args.pc _ (pending_of t) _ (loops_of t) _ _ _
      (λ k ab l ls. ap (λ z. after_iteration z c.args.end.filtered c.args.pc (outcome_view c.args.answer) (values_of t) k ab l ls) c.in-Map.is ∙ ap (λ z. after_iteration Map z c.args.pc (outcome_view c.args.answer) (values_of t) k ab l ls) c.if-end.true)
      c.take_filtered.ensures.value;
}

pub returns-else-end : goal.returns-else-end
returns-else-end c = record {
  value =
      let t = c.args.stacks.now in
      advances_same c.take_image.result c.args.pc _ (pending_of t) _ (loops_of t) _ _ _
      (λ k ab l ls. ap (λ z. after_iteration z c.args.end.filtered c.args.pc (outcome_view c.args.answer) (values_of t) k ab l ls) c.in-Map.is ∙ ap (λ z. after_iteration Map z c.args.pc (outcome_view c.args.answer) (values_of t) k ab l ls) c.if-end.false)
      c.take_image.ensures.value;
}
