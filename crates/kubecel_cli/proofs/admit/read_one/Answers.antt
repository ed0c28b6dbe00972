use Rattle.kubecel_io.specs.Reads.{AreRead, document_view}
use Rattle.kubecel_cli.proofs.Alone.{first_of_file, one_read, only_one}
use Rattle.kubecel_cli.proofs.admit.read_one.Goals as goal
use Rattle.std.proofs.Common.{◌≡◌, [], ◌∷◌, map, sym, subst, ◌∙◌}

pub returns-in-Some-clause-read : goal.returns-in-Some-clause-read
returns-in-Some-clause-read g c =
    let reads = g.S.Sources.reads in
    let documents = c.in_ok-documents.documents.items in
    let left = c.pop.new.self in
    let only : documents ≡ c.in-Some.document ∷ [] =
    only_one documents left.items c.in-Some.document left.len c.in-Some.ensures.items left.ok.0 (sym c.is_empty.ensures ∙ c.if-is_empty.true) in
    one_read reads c.args.files.now c.args.path.now c.in-Some.document c.read_documents.new.files
    (subst (λ ds. AreRead reads c.args.files.now (c.args.path.now ∷ []) (map document_view ds) c.read_documents.new.files) only c.in_ok-documents.ensures.read)

pub returns-in-Some-clause-location : goal.returns-in-Some-clause-location
returns-in-Some-clause-location g c =
    let reads = g.S.Sources.reads in
    let documents = c.in_ok-documents.documents.items in
    let left = c.pop.new.self in
    let only : documents ≡ c.in-Some.document ∷ [] =
    only_one documents left.items c.in-Some.document left.len c.in-Some.ensures.items left.ok.0 (sym c.is_empty.ensures ∙ c.if-is_empty.true) in
    first_of_file reads c.args.files.now c.args.path.now c.in-Some.document c.read_documents.new.files
    (subst (λ ds. AreRead reads c.args.files.now (c.args.path.now ∷ []) (map document_view ds) c.read_documents.new.files) only c.in_ok-documents.ensures.read)
