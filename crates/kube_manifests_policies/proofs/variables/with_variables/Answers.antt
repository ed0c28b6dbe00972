use Rattle.cel_patterns.proofs.Books.{Extends-trans}
use Rattle.kube_manifests_policies.proofs.Alike.{all_after, one_after}
use Rattle.kube_manifests_documents.proofs.Entries.{no_item}
use Rattle.kube_manifests_policies.proofs.variables.with_variables.Goals as goal
use Rattle.kube_manifests_policies.specs.Scopes.{scope_view}
use Rattle.std.proofs.Common.{◌<◌, length, get_or, arith}
use Rattle.std.proofs.lemmas.List.{get_or_default}

pub loop-item-preserved : goal.loop-item-preserved
loop-item-preserved c = record {
  keeps = Extends-trans c.in_ok-so_far.ensures.keeps c.loop-item.invariant.keeps;
  scope = λ b h.
      let items = c.args.items.now in
      let i = c.loop-item.item-index in
      let below : i < length items = omega arith in
      let x = get_or items i no_item in
      one_after b (scope_view c.loop-item.so_far) (scope_view c.in_ok-so_far.so_far) items i x below (get_or_default items i no_item x below)
      (c.in_ok-so_far.ensures.scope b h) (c.loop-item.invariant.scope b (Extends-trans h c.in_ok-so_far.ensures.keeps));
}

pub returns-clause-scope : goal.returns-clause-scope
returns-clause-scope c b h =
    all_after b (scope_view c.loop-item.so_far) c.args.items.now c.loop-item.item-index c.loop-item-test.false (c.loop-item.invariant.scope b h)
