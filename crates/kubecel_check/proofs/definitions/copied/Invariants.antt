use Rattle.kubecel_check.proofs.definitions.copied.Given as goal
use Rattle.kubecel_io.specs.Subjects.{subject_view}
use Rattle.std.proofs.Common.{◌≡◌, map, take}

abbrev pub invariant-loop-document : goal.invariant-loop-document
invariant-loop-document l = map subject_view l.copies.items ≡ map subject_view (take l.document-index l.documents)
