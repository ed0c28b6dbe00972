use Rattle.std.proofs.Common.{rules, arith, ◌≡◌, ◌+◌, ◌-◌, ◌<◌, length, refl, Some}
use Rattle.std.specs.Prelude.{slice_get}
use Rattle.std.proofs.lemmas.Option.{slice_get_read}
use Rattle.cel_semantics.specs.Ranges.{range_list}
use Rattle.cel_vm.proofs.Rounds.{goes_on}
use Rattle.cel_vm.proofs.items.go_on.Goals as goal

pub returns-then-left-gt1 : goal.returns-then-left-gt1
returns-then-left-gt1 c =
    let ls = c.args.loops.now.items in
    let s = c.index_mut-state.result.now in
    let k = c.len-count.result - 1 in
    let one : k + 1 ≡ length ls = search (rules, arith) in
    let here : slice_get ls k ≡ Some s = slice_get_read ls _ k s refl (omega (arith, one)) c.index_mut-state.ensures.value in
    let more : s.index + 1 < length (range_list s.range) = search (rules, arith) in
    goes_on ls s _ k (s.index + 1) here one refl more refl
