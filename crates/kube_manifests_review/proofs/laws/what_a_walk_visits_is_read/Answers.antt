use Rattle.kube_manifests_review.proofs.Visits.{visited_are_read}
use Rattle.kube_manifests_review.proofs.laws.what_a_walk_visits_is_read.Goals as goal

pub returns : goal.returns
returns c = visited_are_read
