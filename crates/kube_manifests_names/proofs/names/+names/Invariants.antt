use Rattle.cel_syntax_ast.specs.Term.{pairs_of as term_pairs, term, terms_of}
use Rattle.kube_manifests_names.proofs.names.+names.Given as goal
use Rattle.kube_manifests_names.specs.Names.{bound_names, names_view, pairs_of, values_of}
use Rattle.std.proofs.Common.{◌≡◌, drop, map}

abbrev pub invariant-values_of-loop-item : goal.invariant-values_of-loop-item
invariant-values_of-loop-item l =
    values_of (names_view l.names) (bound_names l.bound) (terms_of (map term l.item-items))
    ≡ values_of (names_view l.names) (bound_names l.bound) (terms_of (map term (drop l.item-index l.item-items)))

abbrev pub invariant-pairs_of-loop-pair : goal.invariant-pairs_of-loop-pair
invariant-pairs_of-loop-pair l =
    pairs_of (names_view l.names) (bound_names l.bound) (term_pairs (map (λ p. (term p.0, term p.1)) l.pair-items))
    ≡ pairs_of (names_view l.names) (bound_names l.bound) (term_pairs (map (λ p. (term p.0, term p.1)) (drop l.pair-index l.pair-items)))
