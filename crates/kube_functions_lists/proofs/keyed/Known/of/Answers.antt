use Rattle.std.proofs.Common.{false, take, refl, subst}
use Rattle.kube_functions_lists.specs.Hashed.{Knows, among}
use Rattle.kube_functions_lists.proofs.Hashed.{taken}
use Rattle.kube_functions_lists.proofs.keyed.Known.of.Goals as goal

pub loop-item-init : goal.loop-item-init
loop-item-init c = c.new-known.ensures (λ d. false) (λ d. refl)

pub loop-item-preserved : goal.loop-item-preserved
loop-item-preserved c =
    let items = c.args.items.now in
    let i = c.loop-item.item-index in
    subst (λ test. Knows c.add.new.self test) (λ j e. taken items i c.item-item.result c.loop-item-test.true c.item-item.is e j)
    (c.in_ok-add.ensures.known (among (take i items)) c.loop-item.invariant)
