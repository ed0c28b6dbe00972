use Rattle.kubecel_check.proofs.subjects.without_definitions.Given as goal
use Rattle.kubecel_check.specs.Objects.{unless_definition}
use Rattle.kubecel_io.specs.Subjects.{subject_view}
use Rattle.std.proofs.Common.{◌≡◌, flat_map, map, take}

abbrev pub invariant-loop-subject : goal.invariant-loop-subject
invariant-loop-subject l = map subject_view l.judged.items ≡ flat_map unless_definition (map subject_view (take l.subject-index l.subjects))
