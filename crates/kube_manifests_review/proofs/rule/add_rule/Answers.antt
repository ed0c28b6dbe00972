use Rattle.std.proofs.Common.{◌++◌, map, ap, ◌∙◌}
use Rattle.kube_manifests_review.proofs.Steps.{two_steps}
use Rattle.kube_manifests_review.proofs.rule.add_rule.Goals as goal
use Rattle.kube_manifests_review.specs.Candidates.{candidate_view}
use Rattle.kube_manifests_review.specs.Keywords.{keys_candidates, rule_fields}
use Rattle.kube_manifests_review.specs.Rules.{compiled_candidates, members_of}
use Rattle.serde_json.specs.View.{view}

pub returns : goal.returns
unfolding rule_fields
returns c = record {
  candidates =
      let p = c.args.pointer.now in
      let old = map candidate_view c.args.candidates.now.items in
      let mid = map candidate_view c.add_keys_of.new.candidates.items in
      two_steps old mid _ _ _
      (c.in_ok-add_keys_of.ensures ∙ ap (λ r. old ++ keys_candidates rule_fields p r (members_of (view c.args.rule.now))) c.text_of_rule.ensures)
      (c.in_ok-add_result.ensures ∙ ap (λ r. mid ++ compiled_candidates p r) c.in_ok-compiled.ensures.rule);
}
