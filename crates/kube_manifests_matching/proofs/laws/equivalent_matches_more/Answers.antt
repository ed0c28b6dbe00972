use Rattle.kube_manifests_matching.proofs.Lawful.{equivalent}
use Rattle.kube_manifests_matching.proofs.laws.equivalent_matches_more.Goals as goal

pub returns : goal.returns
returns c = equivalent
