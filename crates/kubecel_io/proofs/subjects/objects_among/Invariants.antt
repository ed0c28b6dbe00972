use Rattle.kubecel_io.proofs.subjects.objects_among.Given as goal
use Rattle.kubecel_io.specs.Objects.{all_objects}
use Rattle.kubecel_io.specs.Subjects.{subject_view}
use Rattle.std.proofs.Common.{◌≡◌, map, take}

abbrev pub invariant-loop-document : goal.invariant-loop-document
invariant-loop-document l = map subject_view l.subjects.items ≡ all_objects (map subject_view (take l.document-index l.documents))
