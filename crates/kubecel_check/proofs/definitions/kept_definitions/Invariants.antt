use Rattle.kubecel_check.proofs.definitions.kept_definitions.Given as goal
use Rattle.kubecel_check.specs.Definitions.{unless_passed_over}
use Rattle.kubecel_io.specs.Subjects.{subject_view}
use Rattle.std.proofs.Common.{◌≡◌, flat_map, map, take}

abbrev pub invariant-loop-document : goal.invariant-loop-document
invariant-loop-document l = map subject_view l.kept.items ≡ flat_map unless_passed_over (map subject_view (take l.document-index l.documents))
