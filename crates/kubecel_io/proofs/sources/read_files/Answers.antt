use Rattle.kubecel_io.proofs.Files.{all_read, none_are}
use Rattle.kubecel_io.proofs.sources.read_files.Goals as goal
use Rattle.kubecel_report.specs.Items.{item_view}
use Rattle.kubecel_io.specs.Reads.{document_view}
use Rattle.std.proofs.Common.{map}

pub returns-clause-all : goal.returns-clause-all
returns-clause-all g c =
    let contents = c.in_ok-contents.contents in
    let unusable = map item_view contents.unusable.items in
    λ none. all_read g.S.Sources.reads c.args.files.now c.try_files.new.files (map (λ s. s.now) c.args.paths.now) (map document_view contents.documents.items) unusable c.in_ok-contents.ensures (none_are unusable none)
