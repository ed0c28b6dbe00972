use Rattle.std.proofs.Common.{◌≡◌, ◌++◌, None, map, option_map}
use Rattle.kube_cel_analysis.specs.Findings as linter
use Rattle.kube_manifests_review.specs.Candidates.{candidate_view}
use Rattle.kube_manifests_review.specs.Linted.{lint_candidates, shared_bytes}
use Rattle.kube_manifests_review.proofs.Superseded.{last_of}
use Rattle.kube_manifests_review.proofs.linted.add_lint.Given as goal

-- the candidates for the findings so far, and the rule that was last found to call what is lacking
abbrev pub invariant-loop-finding : goal.invariant-loop-finding
invariant-loop-finding l =
    (map candidate_view l.candidates.items ≡ map candidate_view l.fn.candidates.items ++ lint_candidates l.base None (map linter.finding_view l.yielded))
    × (option_map shared_bytes l.last ≡ last_of None (map linter.finding_view l.yielded))
