use Rattle.std.proofs.Common.{ap, ◌∙◌, ◌-◌, ◌≡◌, length, rules, arith}
use Rattle.std.specs.Prelude.{slice_set}
use Rattle.cel_semantics.specs.Outcome.{outcome_view}
use Rattle.cel_vm.specs.State.{outcomes}
use Rattle.cel_vm.proofs.Tops.{below_top}
use Rattle.cel_vm.proofs.stack.put_below.Goals as goal

pub returns-then-count-gt1 : goal.returns-then-count-gt1
returns-then-count-gt1 c = λ r s vs h.
    let n : c.len-count.result - 2 ≡ length c.args.values.now.items - 2 = search (rules, arith) in
    ap (λ k. outcomes (slice_set c.args.values.now.items k c.args.answer)) n ∙ below_top outcome_view c.args.values.now.items r s vs c.args.answer h
