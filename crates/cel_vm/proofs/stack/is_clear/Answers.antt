use Rattle.std.proofs.Common.{◌∷◌, ◌∙◌, ap, sym, option_map}
use Rattle.cel_value.specs.Faults.{fault_view}
use Rattle.cel_vm.specs.State.{pending}
use Rattle.cel_vm.proofs.Tops.{top_is}
use Rattle.cel_vm.proofs.stack.is_clear.Goals as goal

pub returns-in-Some-None-default : goal.returns-in-Some-None-default
returns-in-Some-None-default c = λ _.
    let a = c.in-Some-None-default in
    let below = a.field-0-1.now in
    (pending below, top_is (option_map fault_view) c.args.absorbed.now.items below a.field-0-0.now (sym c.as_slice.ensures.value ∙ a.ensures.cases.0) ∙ ap (λ z. option_map fault_view z ∷ pending below) a.field-0-0-is)
