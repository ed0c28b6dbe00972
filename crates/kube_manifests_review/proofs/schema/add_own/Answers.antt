use Rattle.std.proofs.Common.{map}
use Rattle.kube_manifests_review.proofs.Steps.{two_steps}
use Rattle.kube_manifests_review.proofs.schema.add_own.Goals as goal
use Rattle.kube_manifests_review.specs.Candidates.{candidate_view}
use Rattle.kube_manifests_review.specs.Reviewed.{own_candidates}

pub returns : goal.returns
unfolding own_candidates
returns c = record {
  candidates =
      two_steps (map candidate_view c.args.candidates.now.items) (map candidate_view c.add_no_rule.new.candidates.items) _ _ _ c.in_ok-add_no_rule.ensures c.in_ok-add_each.ensures.candidates;
}
