use Rattle.kubecel_cli.proofs.review.review_findings.Given as goal
use Rattle.kube_manifests_review.specs.Candidates as candidates
use Rattle.kubecel_report.specs.Items.{finding_view}
use Rattle.kubecel_cli.specs.Reports.{review_finding}
use Rattle.std.proofs.Common.{◌≡◌, map, take}

abbrev pub invariant-loop-finding : goal.invariant-loop-finding
invariant-loop-finding l = map finding_view l.findings.items ≡ map review_finding (map candidates.finding_view (take l.finding-index l.found))
