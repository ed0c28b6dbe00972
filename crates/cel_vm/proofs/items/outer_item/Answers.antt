use Rattle.std.proofs.Common.{rules, arith, ◌≡◌, ◌+◌, ◌-◌, ◌≤◌, length, refl, Some}
use Rattle.std.specs.Prelude.{slice_get}
use Rattle.std.proofs.lemmas.Option.{slice_get_read}
use Rattle.cel_vm.specs.State.{loop_view}
use Rattle.cel_vm.proofs.StackSteps.{outward_is, none_outward}
use Rattle.cel_vm.proofs.items.outer_item.Goals as goal

pub returns-then-outward-count : goal.returns-then-outward-count
returns-then-outward-count c =
    let ls = c.args.loops.now.items in
    let s = c.index.result.now in
    let j = c.len-count.result - 1 - c.args.outward in
    let few : j + c.args.outward + 1 ≡ length ls = search (rules, arith) in
    let here : slice_get ls j ≡ Some s = slice_get_read ls _ j s refl (omega (arith, few)) c.index.ensures in
    (loop_view s, outward_is ls s j c.args.outward here few, c.item_of.ensures)

pub returns-else-outward-count : goal.returns-else-outward-count
returns-else-outward-count c =
    let offset : length c.args.loops.now.items ≤ c.args.outward = search (rules, arith) in
    none_outward c.args.loops.now.items c.args.outward offset
