use Rattle.kube_manifests_matching.proofs.Lawful.{rules}
use Rattle.kube_manifests_matching.proofs.laws.rules_add.Goals as goal

pub returns : goal.returns
returns c = rules
