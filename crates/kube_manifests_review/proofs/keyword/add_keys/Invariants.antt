use Rattle.std.proofs.Common.{◌≡◌, ◌++◌, map}
use Rattle.kube_manifests_review.specs.Candidates.{candidate_view}
use Rattle.kube_manifests_review.specs.Keywords.{keys_candidates}
use Rattle.kube_manifests_review.proofs.keyword.add_keys.Given as goal
use Rattle.serde_json.specs.View.{members_view}

-- the candidates so far, followed by those of the remaining keys
abbrev pub invariant-loop-key : goal.invariant-loop-key
invariant-loop-key l =
    map candidate_view l.candidates.items ++ keys_candidates (map (λ f. f.now) l.fields) l.pointer l.rule (members_view l.key-iterator)
    ≡ map candidate_view l.fn.candidates.items ++ keys_candidates (map (λ f. f.now) l.fields) l.pointer l.rule (members_view l.fn.members.entries)
