use Rattle.kubecel_io.proofs.Files.{all_read, stops_for}
use Rattle.kubecel_io.proofs.sources.read_documents.Goals as goal
use Rattle.kubecel_report.specs.Items.{ItemData, item_view}
use Rattle.kubecel_io.specs.Reads.{AreRead, AreTried, Found, document_view}
use Rattle.std.proofs.Common.{List, [], map, sym, subst}
use Rattle.std.proofs.lemmas.Result.{IfOk-weaker}

pub returns-clause-read : goal.returns-clause-read
returns-clause-read g c =
    let reads = g.S.Sources.reads in
    let paths = map (λ s. s.now) c.args.paths.now in
    let contents = c.in_ok-contents.contents in
    IfOk-weaker c.all_or_stop.result _ _ (λ v h. subst (λ d. AreRead reads c.args.files.now paths (map document_view d.items) c.read_files.new.files) (sym h.0)
    (all_read reads c.args.files.now c.read_files.new.files paths (map document_view contents.documents.items) (map item_view contents.unusable.items) c.in_ok-contents.ensures.tried h.1))
    c.all_or_stop.ensures.all

pub returns-clause-stops : goal.returns-clause-stops
returns-clause-stops g c =
    let reads = g.S.Sources.reads in
    let paths = map (λ s. s.now) c.args.paths.now in
    let contents = c.in_ok-contents.contents in
    stops_for (λ (unusable : List ItemData). (found : List Found) × AreTried reads c.args.files.now paths [] [] found unusable c.read_files.new.files) (map item_view contents.unusable.items)
    c.all_or_stop.result c.all_or_stop.ensures.some (map document_view contents.documents.items, c.in_ok-contents.ensures.tried)
