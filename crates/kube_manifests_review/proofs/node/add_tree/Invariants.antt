use Rattle.std.proofs.Common.{◌≡◌, ◌++◌, map, drop}
use Rattle.std.specs.List.{flat_map}
use Rattle.cel_syntax.specs.Term.{term}
use Rattle.kube_manifests_review.specs.Calls.{node_candidates, text_view}
use Rattle.kube_manifests_review.specs.Candidates.{candidate_view}
use Rattle.kube_manifests_review.proofs.node.add_tree.Given as goal

-- the candidates so far, followed by those of the remaining nodes
abbrev pub invariant-loop-node : goal.invariant-loop-node
invariant-loop-node l =
    map candidate_view l.candidates.items ++ flat_map (node_candidates (text_view l.text)) (map (λ n. term n.now) (drop l.node-index l.node-items))
    ≡ map candidate_view l.fn.candidates.items ++ flat_map (node_candidates (text_view l.text)) (map (λ n. term n.now) l.node-items)
