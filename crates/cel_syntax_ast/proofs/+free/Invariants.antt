use Rattle.std.proofs.Common.{◌≡◌, map, drop}
use Rattle.cel_syntax_ast.specs.FreeNames.{is_free_in_any, is_free_in_pairs}
use Rattle.cel_syntax_ast.specs.Term.{term, terms_of, pairs_of}
use Rattle.cel_syntax_ast.proofs.+free.Given as goal

abbrev pub invariant-free_names::any_has_free_name-loop-item : goal.invariant-free_names::any_has_free_name-loop-item
invariant-free_names::any_has_free_name-loop-item l =
    is_free_in_any l.name (terms_of (map term l.item-items)) ≡ is_free_in_any l.name (terms_of (map term (drop l.item-index l.item-items)))

abbrev pub invariant-free_names::pairs_have_free_name-loop-pair : goal.invariant-free_names::pairs_have_free_name-loop-pair
invariant-free_names::pairs_have_free_name-loop-pair l =
    is_free_in_pairs l.name (pairs_of (map (λ p. (term p.0, term p.1)) l.pair-items))
    ≡ is_free_in_pairs l.name (pairs_of (map (λ p. (term p.0, term p.1)) (drop l.pair-index l.pair-items)))
