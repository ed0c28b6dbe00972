use Rattle.std.proofs.Common.{◌≡◌, map}
use Rattle.kube_manifests_review.specs.Candidates.{candidate_view, finding_view}
use Rattle.kube_manifests_review.proofs.unread.unread_parts.Given as goal

abbrev pub invariant-loop-candidate : goal.invariant-loop-candidate
invariant-loop-candidate l = map finding_view l.found.items ≡ map (λ d. d.finding) (map candidate_view l.yielded)
