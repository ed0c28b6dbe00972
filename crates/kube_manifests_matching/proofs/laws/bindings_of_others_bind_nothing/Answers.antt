use Rattle.kube_manifests_matching.proofs.Lawful.{others}
use Rattle.kube_manifests_matching.proofs.laws.bindings_of_others_bind_nothing.Goals as goal

pub returns : goal.returns
returns c = others
