use Rattle.kube_manifests.proofs.Found.{own_version}
use Rattle.kube_manifests.proofs.laws.the_version_found_is_the_objects_own.Goals as goal

pub returns : goal.returns
returns c = own_version
