-- One criterion after another.
use Rattle.kube_manifests_matching.specs.Criteria.{and_also}
use Rattle.kube_manifests_matching.specs.declared.criteria.Applicability.{Applicability}
use Rattle.kube_manifests_matching.specs.declared.criteria.Reason.{Reason}
use Rattle.kube_manifests_matching.specs.declared.truth.Truth.{Truth}
use Rattle.std.proofs.Common.{◌≡◌, ap, ◌∙◌}

pub step : (had new : Applicability) (r : Reason) (t u : Truth) (result : Applicability) → result ≡ and_also had r t → had ≡ new → t ≡ u → result ≡ and_also new r u
step had new r t u result e f g = e ∙ ap (λ h. and_also h r t) f ∙ ap (and_also new r) g
