use Rattle.std.proofs.Common.{rules, arith, ◌≡◌, ◌∷◌, ◌∙◌, ◌++◌, [], ◌+◌, ◌-◌, length, map, ap, refl, Some}
use Rattle.std.specs.Prelude.{slice_get}
use Rattle.std.proofs.lemmas.List.{map-append}
use Rattle.std.proofs.lemmas.Option.{slice_get_read}
use Rattle.cel_value.specs.View.{view}
use Rattle.cel_vm.specs.State.{loop_view}
use Rattle.cel_vm.proofs.Rounds.{gives, given_more}
use Rattle.cel_vm.proofs.items.give.Goals as goal

pub returns-in_ok-push_last : goal.returns-in_ok-push_last
returns-in_ok-push_last c = λ l ms is.
    let ls = c.args.loops.now.items in
    let s = c.index_mut-state.result.now in
    let k = c.len-count.result - 1 in
    let one : k + 1 ≡ length ls = search (rules, arith) in
    let here : slice_get ls k ≡ Some s = slice_get_read ls _ k s refl (omega (arith, one)) c.index_mut-state.ensures.value in
    let more : map view c.push_last.new.list.items ≡ map view s.results.items ++ view c.args.value ∷ [] = ap (map view) c.in_ok-push_last.ensures ∙ map-append view s.results.items (c.args.value ∷ []) in
    gives ls s _ k (view c.args.value) l ms here one (given_more (loop_view s) _ _ more) is
