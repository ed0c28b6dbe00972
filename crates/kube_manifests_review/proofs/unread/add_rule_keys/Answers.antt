use Rattle.std.proofs.Common.{◌++◌, map, ap, ◌∙◌}
use Rattle.kube_manifests_review.proofs.unread.add_rule_keys.Goals as goal
use Rattle.kube_manifests_review.specs.Candidates.{candidate_view}
use Rattle.kube_manifests_review.specs.Keywords.{keys_candidates, rule_fields}
use Rattle.kube_manifests_review.specs.Rules.{members_of}
use Rattle.serde_json.specs.View.{view}

pub returns : goal.returns
unfolding rule_fields
returns c =
    c.in_ok-add_keys_of.ensures
    ∙ ap (λ t. map candidate_view c.args.candidates.now.items ++ keys_candidates rule_fields c.args.pointer.now t (members_of (view c.args.rule.now))) c.text_of_rule-text.ensures
