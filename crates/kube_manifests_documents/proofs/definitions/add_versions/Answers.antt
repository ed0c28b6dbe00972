use Rattle.std.proofs.Common.{◌≡◌, ◌<◌, ◌≤◌, length, map, Ok, Err, sym, ap, ◌∙◌, arith}
use Rattle.kube_manifests_documents.proofs.Each.{each_ends, each_on, each_stops}
use Rattle.kube_manifests_documents.proofs.definitions.add_versions.Goals as goal
use Rattle.kube_manifests_documents.specs.Definitions.{add_version}
use Rattle.kube_manifests_documents.specs.Defined.{added_view, crd_view, error_view, list_view, location_view}
use Rattle.serde_json.specs.View.{view}

pub returns-in-Err-clause-added : goal.returns-in-Err-clause-added
returns-in-Err-clause-added c =
    let step = add_version (location_view c.args.location) (crd_view c.args.crd) in
    let had = list_view c.loop-index.versions in
    let below : c.loop-index.index < length c.args.entries.now = omega arith in
    let stops : Err (error_view c.in-Err.error) ≡ step c.loop-index.index (view c.index-entries-index.result) had =
    ap (added_view (list_view c.add_version.new.versions)) (sym c.in-Err.is) ∙ c.in_ok-error.ensures.added in
    each_stops view step c.args.entries.now c.loop-index.index c.index-entries-index.result had (error_view c.in-Err.error) below c.index-entries-index.is stops ∙ c.loop-index.invariant.added

pub loop-index-preserved : goal.loop-index-preserved
loop-index-preserved c =
    let step = add_version (location_view c.args.location) (crd_view c.args.crd) in
    let had = list_view c.loop-index.versions in
    let new = list_view c.add_version.new.versions in
    let below : c.loop-index.index < length c.args.entries.now = omega arith in
    let goes : Ok new ≡ step c.loop-index.index (view c.index-entries-index.result) had =
    ap (added_view new) (sym c.in_default.is) ∙ c.in_ok-error.ensures.added in
    record {
      added = each_on view step c.args.entries.now c.loop-index.index c.index-entries-index.result had new below c.index-entries-index.is goes ∙ c.loop-index.invariant.added;
      indexed = c.in_ok-error.ensures.indexed;
    }

pub returns-clause-added : goal.returns-clause-added
returns-clause-added c =
    let step = add_version (location_view c.args.location) (crd_view c.args.crd) in
    let past : length c.args.entries.now ≤ c.loop-index.index = omega arith in
    each_ends view step c.args.entries.now c.loop-index.index (list_view c.loop-index.versions) past ∙ c.loop-index.invariant.added
