use Rattle.kubecel_check.proofs.errors.with_hints.Given as goal
use Rattle.kubecel_report.specs.Items.{finding_view}
use Rattle.std.proofs.Common.{◌≡◌, ◌++◌, map}

abbrev pub invariant-loop-hint : goal.invariant-loop-hint
invariant-loop-hint l = map finding_view l.findings.items ≡ map finding_view l.fn.findings.items ++ map finding_view l.yielded
