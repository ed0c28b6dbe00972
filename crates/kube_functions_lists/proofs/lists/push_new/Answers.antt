use Rattle.std.proofs.Common.{◌≡◌, Bool, true, false, not, map, sym, ◌∙◌, subst}
use Rattle.cel_value.specs.View.{view}
use Rattle.kube_functions_lists.specs.Hashed.{Knows, among}
use Rattle.kube_functions_lists.proofs.Hashed.{old_kept}
use Rattle.kube_functions_lists.proofs.lists.push_new.Goals as goal

not_false : (b : Bool) → not b ≡ false → b ≡ true
not_false true h = cc
not_false false h = cc

pub returns-else-branch-clause-known : goal.returns-else-branch-clause-known
returns-else-branch-clause-known c =
    let slice = c.as_slice.result.now in
    let old : among slice (view c.args.item.now) ≡ true = not_false (among slice (view c.args.item.now)) (sym c.in_ok-add_new.ensures.value ∙ c.if-branch.false) in
    subst (λ items. Knows c.add_new.new.self (among items)) c.as_slice.ensures.value
    (subst (λ test. Knows c.add_new.new.self test) (λ j e. old_kept (map view slice) (view c.args.item.now) old e j) c.in_ok-add_new.ensures.known)
