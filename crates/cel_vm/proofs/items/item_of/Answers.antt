use Rattle.std.proofs.Common.{drop, ap, ◌∙◌}
use Rattle.cel_vm.specs.State.{first_of}
use Rattle.cel_vm.proofs.Rounds.{item_here}
use Rattle.cel_vm.proofs.items.item_of.Goals as goal

pub returns : goal.returns
returns c =
    let n = c.args.state.now.index in
    item_here c.as_slice.result.now n c.in-Some.item.now c.in-Some.ensures.lookup.3.0 c.in-Some.ensures.lookup.1 ∙ ap (λ ds. first_of (drop n ds)) c.as_slice.ensures
