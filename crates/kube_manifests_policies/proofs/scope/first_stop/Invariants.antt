use Rattle.cel_syntax.specs.Term.{term}
use Rattle.kube_manifests_policies.proofs.scope.first_stop.Given as goal
use Rattle.kube_manifests_policies.specs.Scopes.{first_stop}
use Rattle.kube_manifests_policies.specs.Verdicts.{result_view}
use Rattle.std.proofs.Common.{◌≡◌, drop, map}

abbrev pub invariant-loop-variable : goal.invariant-loop-variable
invariant-loop-variable l = first_stop (map result_view l.missing) (term l.expr) ≡ first_stop (map result_view (drop l.variable-index l.missing)) (term l.expr)
