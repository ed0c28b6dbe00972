use Rattle.std.proofs.Common.{◌++◌, [], ◌∷◌, None, map, option_map, ap, sym, ◌∙◌, append_assoc}
use Rattle.std.proofs.lemmas.List.{map-append}
use Rattle.kube_cel_analysis.specs.Findings as linter
use Rattle.kube_manifests_review.proofs.Superseded.{last_of, last_of_more, lint_more}
use Rattle.kube_manifests_review.proofs.linted.add_lint.Goals as goal
use Rattle.kube_manifests_review.specs.Candidates.{candidate_view}
use Rattle.kube_manifests_review.specs.Linted.{last_lacking, lint_candidate, lint_candidates}

pub loop-finding-preserved : goal.loop-finding-preserved
loop-finding-preserved c =
    let l = c.loop-finding in
    let base = c.args.base.now in
    let old = map candidate_view c.args.candidates.now.items in
    let had = map candidate_view l.candidates.items in
    let fs = map linter.finding_view l.yielded in
    let f = linter.finding_view c.in-Some.finding in
    let grown = sym (map-append linter.finding_view l.yielded (c.in-Some.finding ∷ [])) in (
      c.in_ok-last.ensures.added ∙ ap (λ o. had ++ lint_candidate base o f) l.invariant.1 ∙ ap (λ xs. xs ++ lint_candidate base (last_of None fs) f) l.invariant.0
          ∙ append_assoc old (lint_candidates base None fs) (lint_candidate base (last_of None fs) f) ∙ ap (λ xs. old ++ xs) (sym (lint_more base None fs f))
          ∙ ap (λ gs. old ++ lint_candidates base None gs) grown,
      c.in_ok-last.ensures.last ∙ ap (λ o. last_lacking o f) l.invariant.1 ∙ sym (last_of_more None fs f) ∙ ap (last_of None) grown,
    )
