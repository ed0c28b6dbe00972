use Rattle.kubecel_check.proofs.errors.error_findings.Given as goal
use Rattle.kube_cel.specs.Errors.{error_view}
use Rattle.kubecel_report.specs.Items.{finding_view}
use Rattle.kubecel_check.specs.Judgements.{error_finding}
use Rattle.std.proofs.Common.{◌≡◌, map, take}

abbrev pub invariant-loop-error : goal.invariant-loop-error
invariant-loop-error l = map finding_view l.findings.items ≡ map (λ e. error_finding (error_view e)) (take l.error-index l.errors)
