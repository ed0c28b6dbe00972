use Rattle.celcheck_cli.proofs.vap.write_results.Given as goal
use Rattle.celcheck_cli.specs.Reports.{result_line}
use Rattle.kube_cel.specs.Validations.{result_view}
use Rattle.std.proofs.Common.{map, take, flat_map}
use Rattle.std.specs.Io.KnownBytes.{Appends}

abbrev pub invariant-loop-result : goal.invariant-loop-result
invariant-loop-result g l = Appends (g.O.Write.contents l.fn.out) (g.O.Write.contents l.out) (flat_map result_line (map result_view (take l.result-index l.results)))
