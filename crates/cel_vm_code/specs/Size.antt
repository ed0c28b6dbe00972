-- Trusted by the clauses of other library calls.
-- The number of nodes of a tree.
use Rattle.std.specs.Prelude.{ℕ, ◌+◌}
use Rattle.cel_syntax_ast.specs.Term.{Term, Terms, Pairs, literal, ident, select, has, index, unary, binary, conditional, list_of, map_with, call, qualified, macro, no_terms, term_and, no_pairs, pair_and}

abbrev mutual
  pub nodes : Term → ℕ
  nodes (literal v) = 1
  nodes (ident x) = 1
  nodes (select a x) = 1 + nodes a
  nodes (has a x) = 1 + nodes a
  nodes (index a b) = 1 + nodes a + nodes b
  nodes (unary o a) = 1 + nodes a
  nodes (binary o a b) = 1 + nodes a + nodes b
  nodes (conditional a b c) = 1 + nodes a + nodes b + nodes c
  nodes (list_of ts) = 1 + all_nodes ts
  nodes (map_with ps) = 1 + pair_nodes ps
  nodes (call target x args) = 1 + all_nodes target + all_nodes args
  nodes (qualified x args) = 1 + all_nodes args
  nodes (macro k range x filter body) = 1 + nodes range + all_nodes filter + nodes body

  pub all_nodes : Terms → ℕ
  all_nodes no_terms = 0
  all_nodes (term_and t ts) = nodes t + all_nodes ts

  pub pair_nodes : Pairs → ℕ
  pair_nodes no_pairs = 0
  pair_nodes (pair_and k v ps) = nodes k + nodes v + pair_nodes ps
