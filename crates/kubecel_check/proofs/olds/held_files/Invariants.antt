use Rattle.kube_manifests.specs.Sets.{set_view}
use Rattle.kubecel_check.proofs.olds.held_files.Given as goal
use Rattle.kubecel_check.specs.HeldFiles.{AreHeld}
use Rattle.kubecel_io.specs.Subjects.{subject_view}
use Rattle.std.proofs.Common.{map, take}

abbrev pub invariant-loop-old : goal.invariant-loop-old
invariant-loop-old l = AreHeld l.held (set_view l.set) (map subject_view (take l.old-index l.olds))
