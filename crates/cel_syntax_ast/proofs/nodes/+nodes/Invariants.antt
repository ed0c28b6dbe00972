use Rattle.std.proofs.Common.{◌≡◌, ◌++◌, map, drop}
use Rattle.cel_syntax_ast.specs.Term.{term, terms_of, pairs_of}
use Rattle.cel_syntax_ast.specs.Nodes.{nodes_of_all, nodes_of_pairs}
use Rattle.cel_syntax_ast.proofs.nodes.+nodes.Given as goal

-- the nodes so far, followed by those of the remaining items
abbrev pub invariant-add_from_all-loop-item : goal.invariant-add_from_all-loop-item
invariant-add_from_all-loop-item l =
    map (λ n. term n.now) l.nodes.items ++ nodes_of_all (terms_of (map term (drop l.item-index l.item-items)))
    ≡ map (λ n. term n.now) l.fn.nodes.items ++ nodes_of_all (terms_of (map term l.item-items))

abbrev pub invariant-add_from_pairs-loop-pair : goal.invariant-add_from_pairs-loop-pair
invariant-add_from_pairs-loop-pair l =
    map (λ n. term n.now) l.nodes.items ++ nodes_of_pairs (pairs_of (map (λ p. (term p.0, term p.1)) (drop l.pair-index l.pair-items)))
    ≡ map (λ n. term n.now) l.fn.nodes.items ++ nodes_of_pairs (pairs_of (map (λ p. (term p.0, term p.1)) l.pair-items))
