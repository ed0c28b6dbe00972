use Rattle.kube_cel_walk.proofs.copy.clone_errors.Given as goal
use Rattle.kube_cel_walk.specs.Errors.{error_view}
use Rattle.std.proofs.Common.{◌≡◌, map, take}

abbrev pub invariant-loop-error : goal.invariant-loop-error
invariant-loop-error l = map error_view l.cloned.items ≡ map error_view (take l.error-index l.error-items)
