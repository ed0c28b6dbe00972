use Rattle.celcheck_cli.proofs.vap.status_of.Given as goal
use Rattle.celcheck_cli.specs.Reports.{results_status}
use Rattle.kube_cel.specs.Validations.{result_view}
use Rattle.std.proofs.Common.{◌≡◌, map, drop}

abbrev pub invariant-loop-result : goal.invariant-loop-result
invariant-loop-result l = results_status (map result_view l.results) ≡ results_status (map result_view (drop l.result-index l.results))
