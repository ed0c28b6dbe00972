use Rattle.kube_manifests_policies.proofs.verdict.any_is.Given as goal
use Rattle.kube_manifests_policies.specs.Verdicts.{any_is, result_view}
use Rattle.std.proofs.Common.{◌≡◌, drop, map}

abbrev pub invariant-loop-one : goal.invariant-loop-one
invariant-loop-one l = any_is l.problem (map result_view l.results) ≡ any_is l.problem (map result_view (drop l.one-index l.results))
