use Rattle.kube_manifests_matching.proofs.Lawful.{unbound}
use Rattle.kube_manifests_matching.proofs.laws.unbound_policies_apply_to_nothing.Goals as goal

pub returns : goal.returns
returns c = unbound
