use Rattle.kubecel_cli.proofs.review.any_unsupported.Given as goal
use Rattle.kube_manifests_review.specs.Candidates as candidates
use Rattle.kubecel_cli.specs.Reports.{is_unsupported}
use Rattle.std.proofs.Common.{◌≡◌, drop, map}
use Rattle.std.specs.List.{list_any}

abbrev pub invariant-loop-finding : goal.invariant-loop-finding
invariant-loop-finding l = list_any (λ f. is_unsupported f.kind) (map candidates.finding_view l.found)
    ≡ list_any (λ f. is_unsupported f.kind) (map candidates.finding_view (drop l.finding-index l.found))
