use Rattle.kubecel_io.proofs.subjects.whole_documents.Given as goal
use Rattle.kubecel_io.specs.Reads.{document_view}
use Rattle.kubecel_io.specs.Subjects.{subject_view}
use Rattle.std.proofs.Common.{◌≡◌, map, take}

abbrev pub invariant-loop-document : goal.invariant-loop-document
invariant-loop-document l = map subject_view l.subjects.items ≡ map document_view (take l.document-index l.documents)
