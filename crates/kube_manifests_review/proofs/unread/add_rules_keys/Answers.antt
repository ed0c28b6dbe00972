use Rattle.std.proofs.Common.{◌++◌, map, refl, ap, ◌∙◌}
use Rattle.kube_manifests_review.proofs.Items.{last_item, next_item}
use Rattle.kube_manifests_review.proofs.unread.add_rules_keys.Goals as goal
use Rattle.kube_manifests_review.specs.Candidates.{candidate_view}
use Rattle.kube_manifests_documents.specs.Pointers.{index_pointer}
use Rattle.kube_manifests_review.specs.Unread.{rule_unread, rules_unread}
use Rattle.serde_json.specs.View.{view}

pub loop-index-preserved : goal.loop-index-preserved
loop-index-preserved c =
    let l = c.loop-index in
    let p = c.args.pointer.now in
    let had = map candidate_view l.candidates.items in
    next_item (rules_unread p) (λ i d. rule_unread (index_pointer p i) d) (λ i d ds. refl) c.args.rules.now l.index c.index-rules-index.result _ had _ c.loop-index-test.true c.index-rules-index.is
    (c.in_ok-add_rule_keys.ensures ∙ ap (λ r. had ++ rule_unread r (view c.index-rules-index.result)) (c.as_str.ensures.value ∙ c.in_ok-inner.ensures)) l.invariant

pub returns : goal.returns
returns c =
    let l = c.loop-index in
    let p = c.args.pointer.now in
    last_item (rules_unread p) (λ i d. rule_unread (index_pointer p i) d) (λ i. refl) c.args.rules.now l.index (map candidate_view l.candidates.items) _ c.loop-index-test.false l.invariant
