use Rattle.kubecel_check.proofs.errors.any_other.Given as goal
use Rattle.kube_cel.specs.Errors.{error_view}
use Rattle.kubecel_check.specs.Judgements.{any_other}
use Rattle.std.proofs.Common.{◌≡◌, drop, map}

abbrev pub invariant-loop-error : goal.invariant-loop-error
invariant-loop-error l = any_other (map error_view l.errors) ≡ any_other (map error_view (drop l.error-index l.errors))
