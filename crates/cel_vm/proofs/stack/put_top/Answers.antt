use Rattle.std.proofs.Common.{ap, ◌∙◌, ◌-◌, ◌≡◌, length, rules, arith}
use Rattle.std.specs.Prelude.{slice_set}
use Rattle.cel_semantics.specs.Outcome.{outcome_view}
use Rattle.cel_vm.specs.State.{outcomes}
use Rattle.cel_vm.proofs.Tops.{on_top}
use Rattle.cel_vm.proofs.stack.put_top.Goals as goal

pub returns-then-count-gt0 : goal.returns-then-count-gt0
returns-then-count-gt0 c = λ r vs h.
    let n : c.len-count.result - 1 ≡ length c.args.values.now.items - 1 = search (rules, arith) in
    ap (λ k. outcomes (slice_set c.args.values.now.items k c.args.answer)) n ∙ on_top outcome_view c.args.values.now.items r vs c.args.answer h
