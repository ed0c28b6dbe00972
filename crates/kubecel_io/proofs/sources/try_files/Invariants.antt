use Rattle.kubecel_io.proofs.sources.try_files.Given as goal
use Rattle.kubecel_report.specs.Items.{item_view}
use Rattle.kubecel_io.specs.Reads.{AreTried, document_view}
use Rattle.std.proofs.Common.{[], map, take}

abbrev pub invariant-loop-path : goal.invariant-loop-path
invariant-loop-path g l = AreTried g.S.Sources.reads l.fn.files (map (λ s. s.now) (take l.path-index l.paths)) [] [] (map document_view l.contents.documents.items) (map item_view l.contents.unusable.items) l.files
