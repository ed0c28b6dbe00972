use Rattle.kube_manifests_matching.proofs.Lawful.{empty}
use Rattle.kube_manifests_matching.proofs.laws.empty_selectors_are_met.Goals as goal

pub returns : goal.returns
returns c = empty
