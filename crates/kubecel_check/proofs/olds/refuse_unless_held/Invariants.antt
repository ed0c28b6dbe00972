use Rattle.kube_manifests.specs.Sets.{set_view}
use Rattle.kubecel_check.proofs.olds.refuse_unless_held.Given as goal
use Rattle.kubecel_check.specs.Objects.{holds_object}
use Rattle.kubecel_io.specs.Subjects.{subject_view}
use Rattle.std.proofs.Common.{◌≡◌, map, take, true}
use Rattle.std.specs.List.{list_all}

abbrev pub invariant-loop-path : goal.invariant-loop-path
invariant-loop-path l = list_all (holds_object (set_view l.set) (map subject_view l.olds)) (map (λ s. s.now) (take l.path-index l.paths)) ≡ true
