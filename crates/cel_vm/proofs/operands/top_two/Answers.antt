use Rattle.std.proofs.Common.{◌∷◌, Ok, sym, ap, ◌∙◌}
use Rattle.cel_value.specs.View.{view}
use Rattle.cel_semantics.specs.Outcome.{outcome_view}
use Rattle.cel_vm.specs.State.{outcomes}
use Rattle.cel_vm.proofs.Tops.{top_is}
use Rattle.cel_vm.proofs.operands.top_two.Goals as goal

pub returns-in-Some-Ok-default-split_last : goal.returns-in-Some-Ok-default-split_last
returns-in-Some-Ok-default-split_last c =
    let a = c.in-Some-Ok-default in
    let b = c.in-Some-Ok-default-split_last in
    let us = a.rest.now in
    let ws = b.field-0-1.now in
    let upper = top_is outcome_view c.args.values.now.items us a.field-0-0.now (sym c.as_slice.ensures.value ∙ a.ensures.cases.0) ∙ ap (λ z. outcome_view z ∷ outcomes us) a.field-0-0-is in
    let lower = top_is outcome_view us ws b.field-0-0.now b.ensures.cases.0 ∙ ap (λ z. outcome_view z ∷ outcomes ws) b.field-0-0-is in
    (outcomes ws, upper ∙ ap (λ zs. Ok (view a.upper) ∷ zs) lower)
