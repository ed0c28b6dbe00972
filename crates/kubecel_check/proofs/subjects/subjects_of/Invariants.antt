use Rattle.kube_manifests.specs.Sets.{set_view}
use Rattle.kubecel_check.proofs.subjects.subjects_of.Given as goal
use Rattle.kubecel_check.specs.Objects.{all_subjects}
use Rattle.kubecel_io.specs.Subjects.{subject_view}
use Rattle.std.proofs.Common.{◌≡◌, map, take}

abbrev pub invariant-loop-document : goal.invariant-loop-document
invariant-loop-document l = map subject_view l.subjects.items ≡ all_subjects (set_view l.set) (map subject_view (take l.document-index l.documents))
