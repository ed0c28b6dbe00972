use Rattle.kube_manifests.specs.Sets.{set_view}
use Rattle.kubecel_io.specs.Subjects.{subject_view}
use Rattle.kubecel_check.proofs.defined.any_is_defined.Given as goal
use Rattle.kubecel_check.specs.Objects.{is_defined}
use Rattle.std.proofs.Common.{◌≡◌, drop, map}
use Rattle.std.specs.List.{list_any}

abbrev pub invariant-loop-subject : goal.invariant-loop-subject
invariant-loop-subject l = list_any (is_defined (set_view l.set)) (map subject_view l.subjects)
    ≡ list_any (is_defined (set_view l.set)) (map subject_view (drop l.subject-index l.subjects))
