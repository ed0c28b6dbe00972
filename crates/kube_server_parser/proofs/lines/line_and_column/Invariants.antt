use Rattle.kube_server_parser.proofs.Counts.{Counts}
use Rattle.kube_server_parser.proofs.lines.line_and_column.Given as goal

abbrev pub invariant-loop-byte : goal.invariant-loop-byte
invariant-loop-byte l = Counts l.byte-items l.byte-index l.position.line l.position.column
