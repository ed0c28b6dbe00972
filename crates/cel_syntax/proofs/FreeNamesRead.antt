-- The names that the traversal collects are the free names.
use Rattle.std.proofs.Common.{◌≡◌, ℕ, List, [], ◌∷◌, Bool, true, false, not, ◌||◌, ◌&&◌, refl, ap, ◌∙◌}
use Rattle.std.specs.List.{list_any}
use Rattle.std.specs.Str.{bytes_eq}
use Rattle.cel_syntax_ast.specs.FreeNames.{is_free, is_free_in_any, is_free_in_pairs}
use Rattle.cel_syntax_ast.specs.Term.{Term, literal, ident, select, has, index, unary, binary, conditional, list_of, map_with, call, qualified, macro, Terms, no_terms, term_and, Pairs, no_pairs, pair_and}
use Rattle.cel_syntax.specs.Outside.{is_read, is_read_in_any, is_read_in_pairs}

either : (f g k : Bool) → ((f && k) || (g && k)) ≡ ((f || g) && k)
either true true true = refl
either true true false = refl
either true false true = refl
either true false false = refl
either false true true = refl
either false true false = refl
either false false true = refl
either false false false = refl

both : (p q f g k : Bool) → p ≡ (f && k) → q ≡ (g && k) → (p || q) ≡ ((f || g) && k)
both p q f g k d e = ap (λ r. r || q) d ∙ ap (λ r. (f && k) || r) e ∙ either f g k

within : (g v b : Bool) → (g && not (v || b)) ≡ ((not v && g) && not b)
within true true true = refl
within true true false = refl
within true false true = refl
within true false false = refl
within false true true = refl
within false true false = refl
within false false true = refl
within false false false = refl

mutual
  pub read_is_free : (x : List ℕ) (bs : List (List ℕ)) (t : Term) → is_read x bs t ≡ (is_free x t && not (list_any (bytes_eq x) bs))
  read_is_free x bs (literal v) = refl
  read_is_free x bs (ident y) = refl
  read_is_free x bs (select a y) = read_is_free x bs a
  read_is_free x bs (has a y) = read_is_free x bs a
  read_is_free x bs (index a b) = both _ _ (is_free x a) (is_free x b) (not (list_any (bytes_eq x) bs)) (read_is_free x bs a) (read_is_free x bs b)
  read_is_free x bs (unary o a) = read_is_free x bs a
  read_is_free x bs (binary o a b) = both _ _ (is_free x a) (is_free x b) (not (list_any (bytes_eq x) bs)) (read_is_free x bs a) (read_is_free x bs b)
  read_is_free x bs (conditional a b c) = both _ _ (is_free x a) (is_free x b || is_free x c) (not (list_any (bytes_eq x) bs)) (read_is_free x bs a)
      (both _ _ (is_free x b) (is_free x c) (not (list_any (bytes_eq x) bs)) (read_is_free x bs b) (read_is_free x bs c))
  read_is_free x bs (list_of ts) = any_read_is_free x bs ts
  read_is_free x bs (map_with ps) = pairs_read_is_free x bs ps
  read_is_free x bs (call target y ts) = both _ _ (is_free_in_any x target) (is_free_in_any x ts) (not (list_any (bytes_eq x) bs)) (any_read_is_free x bs target) (any_read_is_free x bs ts)
  read_is_free x bs (qualified y ts) = any_read_is_free x bs ts
  read_is_free x bs (macro k r y f b) = both _ _ (is_free x r) (not (bytes_eq x y) && (is_free_in_any x f || is_free x b)) (not (list_any (bytes_eq x) bs)) (read_is_free x bs r)
      (both _ _ (is_free_in_any x f) (is_free x b) (not (bytes_eq x y || list_any (bytes_eq x) bs)) (any_read_is_free x (y ∷ bs) f) (read_is_free x (y ∷ bs) b)
      ∙ within (is_free_in_any x f || is_free x b) (bytes_eq x y) (list_any (bytes_eq x) bs))

  pub any_read_is_free : (x : List ℕ) (bs : List (List ℕ)) (ts : Terms) → is_read_in_any x bs ts ≡ (is_free_in_any x ts && not (list_any (bytes_eq x) bs))
  any_read_is_free x bs no_terms = refl
  any_read_is_free x bs (term_and t ts) = both _ _ (is_free x t) (is_free_in_any x ts) (not (list_any (bytes_eq x) bs)) (read_is_free x bs t) (any_read_is_free x bs ts)

  pub pairs_read_is_free : (x : List ℕ) (bs : List (List ℕ)) (ps : Pairs) → is_read_in_pairs x bs ps ≡ (is_free_in_pairs x ps && not (list_any (bytes_eq x) bs))
  pairs_read_is_free x bs no_pairs = refl
  pairs_read_is_free x bs (pair_and k v ps) = both _ _ (is_free x k) (is_free x v || is_free_in_pairs x ps) (not (list_any (bytes_eq x) bs)) (read_is_free x bs k)
      (both _ _ (is_free x v) (is_free_in_pairs x ps) (not (list_any (bytes_eq x) bs)) (read_is_free x bs v) (pairs_read_is_free x bs ps))

and_true : (f : Bool) → (f && true) ≡ f
and_true true = refl
and_true false = refl

-- outside all macros the two are the same
pub read_is_free_outside : (x : List ℕ) (t : Term) → is_read x [] t ≡ is_free x t
read_is_free_outside x t = read_is_free x [] t ∙ and_true (is_free x t)
