use Rattle.std.proofs.Common.{◌≡◌, ◌+◌, ◌*◌, map, drop}
use Rattle.cel_syntax_ast.specs.Term.{term, terms_of, pairs_of}
use Rattle.cel_vm_code.specs.Code.{codes_in, pairs_in}
use Rattle.cel_vm_code.specs.CodeViews.{variables, from_end, operands_to, entries_to}
use Rattle.cel_vm_code.specs.Size.{nodes, all_nodes, pair_nodes}
use Rattle.cel_vm_code.proofs.compile.+compile.Given as goal

abbrev pub decreases-write_tree : goal.decreases-write_tree
decreases-write_tree l = 6 * nodes (term l.expr.now)

abbrev pub decreases-write_operand : goal.decreases-write_operand
decreases-write_operand l = 6 * nodes (term l.expr.now) + 1

abbrev pub decreases-write_part : goal.decreases-write_part
decreases-write_part l = 6 * nodes (term l.operand.now) + 2

abbrev pub decreases-write_parts : goal.decreases-write_parts
decreases-write_parts l = 6 * (nodes (term l.left.now) + nodes (term l.right.now)) + 2

abbrev pub decreases-write_operands : goal.decreases-write_operands
decreases-write_operands l = 6 * all_nodes (terms_of (map term l.items.now.items)) + 2

abbrev pub decreases-write_entries : goal.decreases-write_entries
decreases-write_entries l = 6 * pair_nodes (pairs_of (map (λ p. (term p.0, term p.1)) l.pairs.now.items)) + 2

abbrev pub decreases-write_binary : goal.decreases-write_binary
decreases-write_binary l = 6 * (nodes (term l.left.now) + nodes (term l.right.now)) + 4

abbrev pub decreases-write_logic : goal.decreases-write_logic
decreases-write_logic l = 6 * (nodes (term l.left.now) + nodes (term l.right.now)) + 2

abbrev pub decreases-write_choice : goal.decreases-write_choice
decreases-write_choice l = 6 * (nodes (term l.test.now) + nodes (term l.yes.now) + nodes (term l.no.now)) + 1

abbrev pub decreases-write_function : goal.decreases-write_function
decreases-write_function l = 6 * all_nodes (terms_of (map term l.args.now.items)) + 3

abbrev pub decreases-write_method : goal.decreases-write_method
decreases-write_method l = 6 * (nodes (term l.target.now) + all_nodes (terms_of (map term l.args.now.items))) + 3

abbrev pub decreases-write_loop : goal.decreases-write_loop
decreases-write_loop l = 6 * nodes (term l.body.now) + 1

abbrev pub decreases-write_filter : goal.decreases-write_filter
decreases-write_filter l = 6 * (nodes (term l.test.now) + nodes (term l.body.now)) + 3

abbrev pub invariant-write_operands-loop-k : goal.invariant-write_operands-loop-k
invariant-write_operands-loop-k l =
    from_end l.code.items ≡ operands_to (codes_in (variables l.names) (terms_of (map term (drop l.k l.items.items)))) (l.depth + l.k) l.end (from_end l.initial.code.items)

abbrev pub invariant-write_entries-loop-k : goal.invariant-write_entries-loop-k
invariant-write_entries-loop-k l =
    from_end l.code.items ≡ entries_to (pairs_in (variables l.names) (pairs_of (map (λ p. (term p.0, term p.1)) (drop l.k l.pairs.items)))) l.end (from_end l.initial.code.items)
