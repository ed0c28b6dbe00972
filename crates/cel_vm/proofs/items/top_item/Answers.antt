use Rattle.std.proofs.Common.{sym, ◌∙◌}
use Rattle.cel_vm.specs.State.{loop_view, loops_view}
use Rattle.cel_vm.proofs.Tops.{top_is}
use Rattle.cel_vm.proofs.items.top_item.Goals as goal

pub returns-in-Some : goal.returns-in-Some
returns-in-Some c =
    let below = c.in-Some.field-0-1.now in
    (loop_view c.in-Some.state.now, loops_view below, top_is loop_view c.args.loops.now.items below c.in-Some.state.now (sym c.as_slice.ensures.value ∙ c.in-Some.ensures.cases.0), c.item_of.ensures)
