-- Trusted by the clauses of analysis and linter.
-- The nodes of a tree: the tree itself, then the nodes of its parts, in the order in which a text
-- has them. Source: CEL language definition, "Syntax".
use Rattle.std.specs.Borrow.{Bor}
use Rattle.std.specs.Prelude.{◌≡◌, List, [], ◌∷◌, ◌++◌, map}
use Rattle.cel_syntax_ast.specs.declared.expr.Expr.{Expr}
use Rattle.cel_syntax_ast.specs.Term.{Term, term, literal, ident, select, has, index, unary, binary, conditional, list_of, map_with, call, qualified, macro, Terms, no_terms, term_and, Pairs, no_pairs, pair_and}

abbrev mutual
  pub nodes_of : Term → List Term
  nodes_of (literal v) = literal v ∷ []
  nodes_of (ident x) = ident x ∷ []
  nodes_of (select a x) = select a x ∷ nodes_of a
  nodes_of (has a x) = has a x ∷ nodes_of a
  nodes_of (index a b) = index a b ∷ (nodes_of a ++ nodes_of b)
  nodes_of (unary o a) = unary o a ∷ nodes_of a
  nodes_of (binary o a b) = binary o a b ∷ (nodes_of a ++ nodes_of b)
  nodes_of (conditional a b c) = conditional a b c ∷ (nodes_of a ++ (nodes_of b ++ nodes_of c))
  nodes_of (list_of ts) = list_of ts ∷ nodes_of_all ts
  nodes_of (map_with ps) = map_with ps ∷ nodes_of_pairs ps
  nodes_of (call r x ts) = call r x ts ∷ (nodes_of_all r ++ nodes_of_all ts)
  nodes_of (qualified x ts) = qualified x ts ∷ nodes_of_all ts
  nodes_of (macro k r x f b) = macro k r x f b ∷ (nodes_of r ++ (nodes_of_all f ++ nodes_of b))

  pub nodes_of_all : Terms → List Term
  nodes_of_all no_terms = []
  nodes_of_all (term_and t ts) = nodes_of t ++ nodes_of_all ts

  pub nodes_of_pairs : Pairs → List Term
  nodes_of_pairs no_pairs = []
  nodes_of_pairs (pair_and k v ps) = nodes_of k ++ (nodes_of v ++ nodes_of_pairs ps)

-- the nodes afterwards are those before, followed by these
abbrev pub AddsNodes : List (Bor Expr) → List (Bor Expr) → List Term → Type 0
AddsNodes before after ts = map (λ n. term n.now) after ≡ map (λ n. term n.now) before ++ ts
