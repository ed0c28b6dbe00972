use Rattle.kube_types.proofs.Version.Lenient.{lenient_version}
use Rattle.kube_types.proofs.versions.laws.lenient_keeps_versions.Goals as goal

pub returns : goal.returns
returns c = lenient_version
