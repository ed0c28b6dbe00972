use Rattle.kubecel_report.proofs.lines.write_junit_findings.Given as goal
use Rattle.kubecel_report.specs.Items.{finding_view}
use Rattle.kubecel_report.specs.Lines.{junit_finding}
use Rattle.std.proofs.Common.{map, take, flat_map}
use Rattle.std.specs.Io.KnownBytes.{Appends}

abbrev pub invariant-loop-finding : goal.invariant-loop-finding
invariant-loop-finding g l = Appends (g.O.Write.contents l.fn.out) (g.O.Write.contents l.out) (flat_map junit_finding (map finding_view (take l.finding-index l.findings)))
