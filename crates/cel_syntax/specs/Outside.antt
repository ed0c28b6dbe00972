-- Scaffolding: only proofs and private clauses cite it.
-- The free names of an expression, except some that enclosing macros bind.
use Rattle.std.specs.Prelude.{ℕ, List, ◌∷◌, Bool, false, not, ◌&&◌, ◌||◌}
use Rattle.std.specs.List.{list_any}
use Rattle.std.specs.Str.{bytes_eq}
use Rattle.cel_syntax_ast.specs.Term.{Term, literal, ident, select, has, index, unary, binary, conditional, list_of, map_with, call, qualified, macro, Terms, no_terms, term_and, Pairs, no_pairs, pair_and}

abbrev mutual
  -- whether x is free in the term and not one of the bound names
  pub is_read : List ℕ → List (List ℕ) → Term → Bool
  is_read x bs (literal v) = false
  is_read x bs (ident y) = bytes_eq x y && not (list_any (bytes_eq x) bs)
  is_read x bs (select a y) = is_read x bs a
  is_read x bs (has a y) = is_read x bs a
  is_read x bs (index a b) = is_read x bs a || is_read x bs b
  is_read x bs (unary o a) = is_read x bs a
  is_read x bs (binary o a b) = is_read x bs a || is_read x bs b
  is_read x bs (conditional a b c) = is_read x bs a || (is_read x bs b || is_read x bs c)
  is_read x bs (list_of ts) = is_read_in_any x bs ts
  is_read x bs (map_with ps) = is_read_in_pairs x bs ps
  is_read x bs (call target y ts) = is_read_in_any x bs target || is_read_in_any x bs ts
  is_read x bs (qualified y ts) = is_read_in_any x bs ts
  is_read x bs (macro k r y f b) = is_read x bs r || (is_read_in_any x (y ∷ bs) f || is_read x (y ∷ bs) b)

  pub is_read_in_any : List ℕ → List (List ℕ) → Terms → Bool
  is_read_in_any x bs no_terms = false
  is_read_in_any x bs (term_and t ts) = is_read x bs t || is_read_in_any x bs ts

  pub is_read_in_pairs : List ℕ → List (List ℕ) → Pairs → Bool
  is_read_in_pairs x bs no_pairs = false
  is_read_in_pairs x bs (pair_and k v ps) = is_read x bs k || (is_read x bs v || is_read_in_pairs x bs ps)
