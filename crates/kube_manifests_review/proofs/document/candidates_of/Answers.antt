use Rattle.std.proofs.Common.{◌++◌, [], map, ap, ◌∙◌, append_assoc}
use Rattle.kube_manifests_review.proofs.document.candidates_of.Goals as goal
use Rattle.kube_manifests_review.specs.Candidates.{candidate_view}
use Rattle.kube_manifests_review.specs.Reviewed.{crd_candidates, no_version_candidates, versions_candidates}
use Rattle.kube_manifests_review.specs.Stray.{stray}
use Rattle.kube_manifests_review.specs.declared.part.Part.TheVariants as part
use Rattle.serde_json.specs.View.{items_view, view}

pub returns : goal.returns
unfolding crd_candidates
returns c = record {
  candidates = λ names.
      let ds = items_view c.versions_of-versions.result.now in
      let crd = view c.args.crd.now in
      let none = no_version_candidates ds in
      let all = versions_candidates names 0 ds in
      let others = stray part.Document [] crd in
      let first = c.in_ok-add_no_version.ensures ∙ ap (λ xs. map candidate_view xs ++ none) c.new-candidates.ensures.items in
      let then = c.in_ok-add_versions.ensures.candidates names ∙ ap (λ xs. xs ++ all) first in
      c.in_ok-add_stray.ensures ∙ ap (λ xs. xs ++ others) then ∙ append_assoc none all others
      ∙ ap (λ vs. no_version_candidates vs ++ (versions_candidates names 0 vs ++ others)) c.versions_of-versions.ensures;
}
