use Rattle.kubecel_cli.proofs.admit.add_results.Given as goal
use Rattle.kube_manifests_policies.specs.Verdicts.{result_view}
use Rattle.kubecel_report.specs.Items.{finding_view}
use Rattle.kubecel_cli.specs.Reports.{expressions_view, result_findings}
use Rattle.serde_json.specs.View.{view}
use Rattle.std.proofs.Common.{◌≡◌, ◌++◌, flat_map, map, take}

abbrev pub invariant-loop-one : goal.invariant-loop-one
invariant-loop-one l = map finding_view l.findings.items ≡ map finding_view l.fn.findings.items
    ++ flat_map (result_findings (expressions_view l.expressions) (view l.policy)) (map result_view (take l.one-index l.results))
