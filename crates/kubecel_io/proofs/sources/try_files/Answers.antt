use Rattle.kubecel_io.proofs.Files.{none_tried, one_more_path, one_more_tried}
use Rattle.kubecel_io.proofs.sources.try_files.Goals as goal
use Rattle.kubecel_report.specs.Items.{item_view}
use Rattle.kubecel_io.specs.Reads.{AreTried, document_view}
use Rattle.std.proofs.Common.{◌+◌, ◌<◌, ℕ, List, [], get_or, length, map, take, subst, arith}
use denote.Ref.{Bor}

pub loop-path-init : goal.loop-path-init
loop-path-init g c = none_tried g.S.Sources.reads c.args.files.now c.new-documents.result.items c.new-unusable.result.items c.new-documents.ensures.items c.new-unusable.ensures.items

pub loop-path-preserved : goal.loop-path-preserved
loop-path-preserved g c =
    let reads = g.S.Sources.reads in
    let paths = c.args.paths.now in
    let i = c.loop-path.path-index in
    let below : i < length paths = omega arith in
    let none : Bor (List ℕ) = record { ref_ptr = (0, 0); now = [] } in
    let path = (get_or paths i none).now in
    let before = map (λ p. p.now) (take i paths) in
    let found = map document_view c.loop-path.contents.documents.items in
    let unusable = map item_view c.loop-path.contents.unusable.items in
    let more_found = map document_view c.read_into.new.contents.documents.items in
    let more_unusable = map item_view c.read_into.new.contents.unusable.items in
    let more = one_more_tried reads c.args.files.now c.loop-path.files c.read_into.new.files before path [] found more_found [] unusable more_unusable c.loop-path.invariant c.in_ok-read_into.ensures in
    subst (λ ps. AreTried reads c.args.files.now ps [] [] more_found more_unusable c.read_into.new.files) (one_more_path paths i none below) more
