use Rattle.std.proofs.Common.{◌≡◌, ◌<◌, ◌≤◌, length, map, Ok, Err, sym, ap, ◌∙◌, arith}
use Rattle.kube_manifests_documents.proofs.Each.{each_ends, each_on, each_stops}
use Rattle.kube_manifests_documents.proofs.Listed.{all_read}
use Rattle.kube_manifests_documents.proofs.defined.DefinedVersions.read.Goals as goal
use Rattle.kube_manifests_documents.specs.Definitions.{add_document}
use Rattle.kube_manifests_documents.specs.Defined.{added_view, error_view, list_view}
use Rattle.serde_json.specs.View.{items_of, view}

pub returns-in-Err-clause-versions : goal.returns-in-Err-clause-versions
returns-in-Err-clause-versions c =
    let step = add_document in
    let had = list_view c.loop-index.versions in
    let below : c.loop-index.index < length c.args.documents.now = omega arith in
    let stops : Err (error_view c.in-Err.error) ≡ step c.loop-index.index (view c.index-documents-index.result.now) had =
    ap (added_view (list_view c.add_document.new.versions)) (sym c.in-Err.is) ∙ c.in_ok-error.ensures.added in
    each_stops (λ v. view v.now) step c.args.documents.now c.loop-index.index c.index-documents-index.result had (error_view c.in-Err.error) below c.index-documents-index.is stops ∙ c.loop-index.invariant.added ∙ all_read (items_of (map (λ v. view v.now) c.args.documents.now))

pub loop-index-preserved : goal.loop-index-preserved
loop-index-preserved c =
    let step = add_document in
    let had = list_view c.loop-index.versions in
    let new = list_view c.add_document.new.versions in
    let below : c.loop-index.index < length c.args.documents.now = omega arith in
    let goes : Ok new ≡ step c.loop-index.index (view c.index-documents-index.result.now) had =
    ap (added_view new) (sym c.in_default.is) ∙ c.in_ok-error.ensures.added in
    record {
      added = each_on (λ v. view v.now) step c.args.documents.now c.loop-index.index c.index-documents-index.result had new below c.index-documents-index.is goes ∙ c.loop-index.invariant.added;
      indexed = c.in_ok-error.ensures.indexed;
    }

pub returns-clause-versions : goal.returns-clause-versions
returns-clause-versions c =
    let step = add_document in
    let past : length c.args.documents.now ≤ c.loop-index.index = omega arith in
    each_ends (λ v. view v.now) step c.args.documents.now c.loop-index.index (list_view c.loop-index.versions) past ∙ c.loop-index.invariant.added ∙ all_read (items_of (map (λ v. view v.now) c.args.documents.now))
