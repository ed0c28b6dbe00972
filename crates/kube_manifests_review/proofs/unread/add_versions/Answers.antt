use Rattle.std.proofs.Common.{◌++◌, map, option_map, refl, ap, ◌∙◌}
use Rattle.kube_manifests_review.proofs.Items.{last_item, next_item}
use Rattle.kube_manifests_review.proofs.unread.add_versions.Goals as goal
use Rattle.kube_manifests_review.specs.Candidates.{candidate_view}
use Rattle.kube_manifests_review.specs.Reviewed.{version_pointer, version_schema}
use Rattle.kube_manifests_review.specs.Unread.{version_unread, versions_unread}
use Rattle.serde_json.specs.View.{view}

pub loop-index-preserved : goal.loop-index-preserved
loop-index-preserved c =
    let l = c.loop-index in
    let had = map candidate_view l.candidates.items in
    next_item versions_unread (λ i d. version_unread (version_pointer i) (version_schema d)) (λ i d ds. refl) c.args.versions.now l.index c.index-versions-index.result _ had _
    c.loop-index-test.true c.index-versions-index.is
    (c.in_ok-add_version.ensures ∙ ap (λ b. had ++ version_unread b (option_map (λ s. view s.now) c.version_schema.result)) (c.as_str.ensures.value ∙ c.in_ok-base.ensures)
    ∙ ap (λ o. had ++ version_unread (version_pointer l.index) o) c.version_schema.ensures) l.invariant

pub returns : goal.returns
returns c =
    let l = c.loop-index in
    last_item versions_unread (λ i d. version_unread (version_pointer i) (version_schema d)) (λ i. refl) c.args.versions.now l.index (map candidate_view l.candidates.items) _
    c.loop-index-test.false l.invariant
