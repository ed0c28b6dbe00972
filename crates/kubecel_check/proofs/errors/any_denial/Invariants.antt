use Rattle.kubecel_check.proofs.errors.any_denial.Given as goal
use Rattle.kube_cel.specs.Errors.{error_view}
use Rattle.kubecel_check.specs.Judgements.{any_denial}
use Rattle.std.proofs.Common.{◌≡◌, drop, map}

abbrev pub invariant-loop-error : goal.invariant-loop-error
invariant-loop-error l = any_denial (map error_view l.errors) ≡ any_denial (map error_view (drop l.error-index l.errors))
