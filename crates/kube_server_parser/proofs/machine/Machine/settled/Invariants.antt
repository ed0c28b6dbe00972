use Rattle.std.proofs.Common.{◌≡◌, ◌≤◌, length, take}
use Rattle.kube_server_parser.specs.Expects.{settled}
use Rattle.kube_server_parser.specs.Views.{frames_of}
use Rattle.kube_server_parser.proofs.machine.Machine.settled.Given as goal

abbrev pub invariant-loop-count : goal.invariant-loop-count
invariant-loop-count l = (l.count ≤ length l.self.frames.items)
    × (settled l.loosest (frames_of l.self.frames.items) ≡ settled l.loosest (frames_of (take l.count l.self.frames.items)))

abbrev pub decreases-loop-count : goal.decreases-loop-count
decreases-loop-count l = l.count
