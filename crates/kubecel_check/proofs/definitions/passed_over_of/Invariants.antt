use Rattle.kubecel_check.proofs.definitions.passed_over_of.Given as goal
use Rattle.kubecel_check.specs.Definitions.{where_passed_over}
use Rattle.kubecel_io.specs.Subjects.{subject_view}
use Rattle.std.proofs.Common.{◌≡◌, flat_map, map, take}

abbrev pub invariant-loop-document : goal.invariant-loop-document
invariant-loop-document l = map subject_view l.passed.items ≡ flat_map where_passed_over (map subject_view (take l.document-index l.documents))
