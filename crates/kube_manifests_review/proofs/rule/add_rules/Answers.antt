use Rattle.std.proofs.Common.{◌++◌, map, refl, ap, ◌∙◌}
use Rattle.kube_manifests_review.proofs.Items.{last_item, next_item}
use Rattle.kube_manifests_review.proofs.rule.add_rules.Goals as goal
use Rattle.kube_manifests_review.specs.Candidates.{candidate_view}
use Rattle.kube_manifests_documents.specs.Pointers.{index_pointer}
use Rattle.kube_manifests_review.specs.Rules.{rule_candidates, rules_candidates}
use Rattle.serde_json.specs.View.{view}

pub loop-index-preserved : goal.loop-index-preserved
loop-index-preserved c =
    let l = c.loop-index in
    let p = c.args.pointer.now in
    let had = map candidate_view l.candidates.items in
    next_item (rules_candidates p) (λ i d. rule_candidates (index_pointer p i) d) (λ i d ds. refl) c.args.rules.now l.index c.index-rules-index.result _ had _ c.loop-index-test.true c.index-rules-index.is
    (c.in_ok-add_rule.ensures.candidates ∙ ap (λ r. had ++ rule_candidates r (view c.index-rules-index.result)) (c.as_str.ensures.value ∙ c.in_ok-inner.ensures)) l.invariant

pub returns : goal.returns
returns c = record {
  candidates =
      let l = c.loop-index in
      let p = c.args.pointer.now in
      last_item (rules_candidates p) (λ i d. rule_candidates (index_pointer p i) d) (λ i. refl) c.args.rules.now l.index (map candidate_view l.candidates.items) _ c.loop-index-test.false l.invariant;
}
