use Rattle.kube_manifests_review.proofs.Visits.{read_are_visited}
use Rattle.kube_manifests_review.proofs.laws.what_is_read_is_visited.Goals as goal

pub returns : goal.returns
returns c = read_are_visited
