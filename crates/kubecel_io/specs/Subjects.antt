-- Trusted by the clauses of kubecel.
-- Views of the objects of documents.
use Rattle.kubecel_io.specs.Reads.{Found}
use Rattle.kubecel_io.specs.declared.subject.Subject.{Subject}
use Rattle.serde_json.specs.View.{view}

abbrev pub subject_view : Subject → Found
subject_view s = record { file = s.file.now; index = s.index; is_item = s.is_item; value = view s.value.now }
