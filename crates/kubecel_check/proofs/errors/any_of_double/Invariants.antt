use Rattle.kubecel_check.proofs.errors.any_of_double.Given as goal
use Rattle.kube_cel.specs.Errors.{error_view}
use Rattle.kubecel_check.specs.Judgements.{is_of_double}
use Rattle.std.proofs.Common.{◌≡◌, drop, map}
use Rattle.std.specs.List.{list_any}

abbrev pub invariant-loop-error : goal.invariant-loop-error
invariant-loop-error l = list_any is_of_double (map error_view l.errors) ≡ list_any is_of_double (map error_view (drop l.error-index l.errors))
