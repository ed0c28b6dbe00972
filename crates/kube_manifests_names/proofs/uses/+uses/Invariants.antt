use Rattle.cel_syntax_ast.specs.Term.{pairs_of, term, terms_of}
use Rattle.kube_manifests_names.proofs.uses.+uses.Given as goal
use Rattle.kube_manifests_names.specs.Uses.{asks_in_any, asks_in_pairs}
use Rattle.std.proofs.Common.{◌≡◌, drop, map}

abbrev pub invariant-any_asks-loop-item : goal.invariant-any_asks-loop-item
invariant-any_asks-loop-item l =
    asks_in_any l.name l.member l.selects (terms_of (map term l.item-items)) ≡ asks_in_any l.name l.member l.selects (terms_of (map term (drop l.item-index l.item-items)))

abbrev pub invariant-pairs_ask-loop-pair : goal.invariant-pairs_ask-loop-pair
invariant-pairs_ask-loop-pair l =
    asks_in_pairs l.name l.member l.selects (pairs_of (map (λ p. (term p.0, term p.1)) l.pair-items))
    ≡ asks_in_pairs l.name l.member l.selects (pairs_of (map (λ p. (term p.0, term p.1)) (drop l.pair-index l.pair-items)))
