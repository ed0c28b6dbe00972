use Rattle.std.proofs.Common.{◌++◌, map, option_map, refl, ap, ◌∙◌}
use Rattle.kube_manifests_review.proofs.Items.{last_item, next_item}
use Rattle.kube_manifests_review.proofs.document.add_versions.Goals as goal
use Rattle.kube_manifests_review.specs.Candidates.{candidate_view}
use Rattle.kube_manifests_review.specs.Reviewed.{version_candidates, version_pointer, version_schema, versions_candidates}
use Rattle.serde_json.specs.View.{view}

pub loop-index-preserved : goal.loop-index-preserved
loop-index-preserved c = λ names.
    let l = c.loop-index in
    let had = map candidate_view l.candidates.items in
    next_item (versions_candidates names) (λ i d. version_candidates names (version_pointer i) (version_schema d)) (λ i d ds. refl) c.args.versions.now l.index c.index-versions-index.result _ had _
    c.loop-index-test.true c.index-versions-index.is
    (c.in_ok-add_version.ensures.candidates names ∙ ap (λ b. had ++ version_candidates names b (option_map (λ s. view s.now) c.version_schema.result)) (c.as_str.ensures.value ∙ c.in_ok-base.ensures)
    ∙ ap (λ o. had ++ version_candidates names (version_pointer l.index) o) c.version_schema.ensures) (l.invariant names)

pub returns : goal.returns
returns c = record {
  candidates = λ names.
      let l = c.loop-index in
      last_item (versions_candidates names) (λ i d. version_candidates names (version_pointer i) (version_schema d)) (λ i. refl) c.args.versions.now l.index (map candidate_view l.candidates.items) _
      c.loop-index-test.false (l.invariant names);
}
