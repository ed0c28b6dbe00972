use Rattle.kube_manifests_matching.proofs.Lawful.{exclusions}
use Rattle.kube_manifests_matching.proofs.laws.exclusions_take_away.Goals as goal

pub returns : goal.returns
returns c = exclusions
