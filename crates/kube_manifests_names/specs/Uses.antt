-- Trusted by the clauses of policies.
-- Which members of a name an expression reads. A macro whose variable has the same name hides it in
-- its filter and body (CEL language definition, "Macros").
use Rattle.cel_syntax_ast.specs.Term.{Term, literal, ident, select, has, index, unary, binary, conditional, list_of, map_with, call, qualified, macro, Terms, no_terms, term_and, Pairs, no_pairs, pair_and}
use Rattle.std.specs.Prelude.{ℕ, List, Bool, false, not, ◌&&◌, ◌||◌, if◌then◌else◌}
use Rattle.std.specs.Str.{bytes_eq}

abbrev pub is_name : List ℕ → Term → Bool
is_name x (ident y) = bytes_eq x y
is_name x _ = false

abbrev mutual
  -- whether the term reads the member y of the free name x: by `has(x.y)`, by `x` as a whole or, if
  -- s is true, by `x.y`
  pub asks : List ℕ → List ℕ → Bool → Term → Bool
  asks x y s (literal v) = false
  asks x y s (ident z) = bytes_eq x z
  asks x y s (select a z) = if is_name x a then s && bytes_eq y z else asks x y s a
  asks x y s (has a z) = if is_name x a then bytes_eq y z else asks x y s a
  asks x y s (index a b) = asks x y s a || asks x y s b
  asks x y s (unary o a) = asks x y s a
  asks x y s (binary o a b) = asks x y s a || asks x y s b
  asks x y s (conditional a b c) = asks x y s a || (asks x y s b || asks x y s c)
  asks x y s (list_of ts) = asks_in_any x y s ts
  asks x y s (map_with ps) = asks_in_pairs x y s ps
  asks x y s (call target z ts) = asks_in_any x y s target || asks_in_any x y s ts
  asks x y s (qualified z ts) = asks_in_any x y s ts
  asks x y s (macro k r z f b) = asks x y s r || (not (bytes_eq x z) && (asks_in_any x y s f || asks x y s b))

  pub asks_in_any : List ℕ → List ℕ → Bool → Terms → Bool
  asks_in_any x y s no_terms = false
  asks_in_any x y s (term_and t ts) = asks x y s t || asks_in_any x y s ts

  pub asks_in_pairs : List ℕ → List ℕ → Bool → Pairs → Bool
  asks_in_pairs x y s no_pairs = false
  asks_in_pairs x y s (pair_and k v ps) = asks x y s k || (asks x y s v || asks_in_pairs x y s ps)
