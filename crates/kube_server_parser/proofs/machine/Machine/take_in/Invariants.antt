use Rattle.std.proofs.Common.{◌≡◌, length}
use Rattle.kube_server_syntax.specs.Tree.{tree}
use Rattle.kube_server_parser.specs.Pending.{taken_in}
use Rattle.kube_server_parser.specs.Views.{frames_of}
use Rattle.kube_server_parser.proofs.machine.Machine.take_in.Given as goal

abbrev pub invariant-loop-waiting : goal.invariant-loop-waiting
invariant-loop-waiting l = taken_in l.loosest (frames_of l.initial.self.frames.items) (tree l.initial.part.node)
    ≡ taken_in l.loosest (frames_of l.self.frames.items) (tree l.part.node)

abbrev pub decreases-loop-waiting : goal.decreases-loop-waiting
decreases-loop-waiting l = length (frames_of l.self.frames.items)
