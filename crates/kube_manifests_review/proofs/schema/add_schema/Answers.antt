use Rattle.std.proofs.Common.{◌++◌, [], None, map, true, ap, ◌∙◌}
use Rattle.kube_cel_analysis.specs.Lint.{findings}
use Rattle.kube_manifests_review.proofs.Steps.{two_steps}
use Rattle.kube_manifests_review.proofs.schema.add_schema.Goals as goal
use Rattle.kube_manifests_review.specs.Candidates.{candidate_view}
use Rattle.kube_manifests_review.specs.Locations.{location_view, locations_of}
use Rattle.kube_manifests_review.specs.Linted.{lint_candidates}
use Rattle.kube_manifests_review.specs.Reviewed.{own_candidates, schema_candidates}
use Rattle.serde_json.specs.View.{view}

pub returns : goal.returns
unfolding schema_candidates
returns c = record {
  candidates = λ names.
      let base = c.args.base.now in
      let old = map candidate_view c.args.candidates.now.items in
      let mid = map candidate_view c.add_lint.new.candidates.items in
      two_steps old mid _ _ _
      (c.in_ok-add_lint.ensures ∙ ap (λ fs. old ++ lint_candidates base None fs) (c.in_ok-findings.ensures.findings names ∙ ap (findings names []) c.in_ok-compiled.ensures.tree))
      (c.in_ok-add_own.ensures.candidates ∙ ap (λ ps. mid ++ own_candidates base (map location_view ps)) c.as_slice.ensures.value
      ∙ ap (λ ps. mid ++ own_candidates base ps) (c.in_ok-add_locations.ensures ∙ ap (λ ps. map location_view ps ++ locations_of 65 true base (view c.args.schema.now)) c.new-locations.ensures.items));
}
