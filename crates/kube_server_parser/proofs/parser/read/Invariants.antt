use Rattle.std.proofs.Common.{◌-◌, length}
use Rattle.kube_server_parser.proofs.Reading.{Reading}
use Rattle.kube_server_parser.proofs.parser.read.Given as goal

abbrev pub invariant-loop-at : goal.invariant-loop-at
invariant-loop-at l = Reading l.text l.at l.mode l.machine.frames.items

abbrev pub decreases-loop-at : goal.decreases-loop-at
decreases-loop-at l = length l.text - l.at
