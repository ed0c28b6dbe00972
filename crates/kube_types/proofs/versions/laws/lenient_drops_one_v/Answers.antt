use Rattle.std.proofs.Common.{sym, ap}
use Rattle.std.specs.Prelude.{option_and_then}
use Rattle.kube_types.specs.Version.Reading.{without_v, normal_text, strictly, version_of}
use Rattle.kube_types.proofs.versions.laws.lenient_drops_one_v.Goals as goal

pub returns-clause-small : goal.returns-clause-small
unfolding version_of without_v
returns-clause-small c = λ text stays. ap (λ t. option_and_then strictly (normal_text t)) (sym stays)

pub returns-clause-capital : goal.returns-clause-capital
unfolding version_of without_v
returns-clause-capital c = λ text stays. ap (λ t. option_and_then strictly (normal_text t)) (sym stays)
