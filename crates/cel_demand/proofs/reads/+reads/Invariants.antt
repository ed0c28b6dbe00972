use Rattle.std.proofs.Common.{◌≡◌, map, drop}
use Rattle.cel_syntax_ast.specs.Term.{term, terms_of, pairs_of}
use Rattle.cel_demand.specs.Demand.{members_view}
use Rattle.cel_demand.specs.Reads.{all_reads, pair_reads}
use Rattle.cel_demand.proofs.reads.+reads.Given as goal

abbrev pub invariant-add_all_reads-loop-item : goal.invariant-add_all_reads-loop-item
invariant-add_all_reads-loop-item l =
    all_reads (terms_of (map term (drop l.item-index l.item-items))) (members_view l.names.items)
    ≡ all_reads (terms_of (map term l.item-items)) (members_view l.initial.names.items)

abbrev pub invariant-add_pair_reads-loop-pair : goal.invariant-add_pair_reads-loop-pair
invariant-add_pair_reads-loop-pair l =
    pair_reads (pairs_of (map (λ p. (term p.0, term p.1)) (drop l.pair-index l.pair-items))) (members_view l.names.items)
    ≡ pair_reads (pairs_of (map (λ p. (term p.0, term p.1)) l.pair-items)) (members_view l.initial.names.items)
