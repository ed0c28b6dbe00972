use Rattle.celcheck_cli.proofs.lint.write_findings.Given as goal
use Rattle.celcheck_cli.specs.Linted.{finding_line}
use Rattle.kube_cel.specs.Findings.{finding_view}
use Rattle.std.proofs.Common.{map, take, flat_map}
use Rattle.std.specs.Io.KnownBytes.{Appends}

abbrev pub invariant-loop-finding : goal.invariant-loop-finding
invariant-loop-finding g l = Appends (g.O.Write.contents l.fn.out) (g.O.Write.contents l.out) (flat_map finding_line (map finding_view (take l.finding-index l.findings)))
