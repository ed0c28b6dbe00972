-- Trusted by the headline.
-- The free names of an expression: those that no enclosing macro binds. A macro binds its
-- variable in its filter and its body, but not in its range (CEL language definition,
-- "Macros"). The name of a function is not a free name.
use Rattle.std.specs.Prelude.{ℕ, List, Bool, false, not, ◌&&◌, ◌||◌}
use Rattle.std.specs.Str.{bytes_eq}
use Rattle.cel_syntax_ast.specs.Term.{Term, literal, ident, select, has, index, unary, binary, conditional, list_of, map_with, call, qualified, macro, Terms, no_terms, term_and, Pairs, no_pairs, pair_and}

abbrev mutual
  -- whether x is a free name of the term
  pub is_free : List ℕ → Term → Bool
  is_free x (literal v) = false
  is_free x (ident y) = bytes_eq x y
  is_free x (select a y) = is_free x a
  is_free x (has a y) = is_free x a
  is_free x (index a b) = is_free x a || is_free x b
  is_free x (unary o a) = is_free x a
  is_free x (binary o a b) = is_free x a || is_free x b
  is_free x (conditional a b c) = is_free x a || (is_free x b || is_free x c)
  is_free x (list_of ts) = is_free_in_any x ts
  is_free x (map_with ps) = is_free_in_pairs x ps
  is_free x (call target y ts) = is_free_in_any x target || is_free_in_any x ts
  is_free x (qualified y ts) = is_free_in_any x ts
  is_free x (macro k r y f b) = is_free x r || (not (bytes_eq x y) && (is_free_in_any x f || is_free x b))

  -- whether x is a free name of one of the terms
  pub is_free_in_any : List ℕ → Terms → Bool
  is_free_in_any x no_terms = false
  is_free_in_any x (term_and t ts) = is_free x t || is_free_in_any x ts

  -- whether x is a free name of one of the keys and values
  pub is_free_in_pairs : List ℕ → Pairs → Bool
  is_free_in_pairs x no_pairs = false
  is_free_in_pairs x (pair_and k v ps) = is_free x k || (is_free x v || is_free_in_pairs x ps)
