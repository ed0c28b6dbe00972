-- The names of a tree as lists, in order: such lists always exist.
use Rattle.std.proofs.Common.{◌≡◌, ℕ, List, [], ◌∷◌, ◌++◌, Bool, true, false, not, ◌&&◌, ◌||◌, Ordering, Less, Equal, Greater, refl, sym, ap, ◌∙◌}
use Rattle.std.proofs.lemmas.List.Folds.{list_any-append}
use Rattle.std.proofs.lemmas.Map.Views.{any-filter_same}
use Rattle.std.proofs.lemmas.Slice.Eq.{bytes_eq-Decides}
use Rattle.std.specs.List.{filter, flat_map, list_any}
use Rattle.std.specs.Ordering.{match_ordering}
use Rattle.std.specs.Str.{bytes_eq}
use Rattle.cel_syntax.specs.CallNames.{calls, is_called}
use Rattle.cel_syntax.specs.Names.{AreNames}
use Rattle.cel_syntax.specs.FreeNames.{is_free, is_free_in_any, is_free_in_pairs}
use Rattle.cel_syntax.specs.Nodes.{nodes_of}
use Rattle.cel_syntax.specs.Term.{Term, literal, ident, select, has, index, unary, binary, conditional, list_of, map_with, call, qualified, macro, Terms, no_terms, term_and, Pairs, no_pairs, pair_and}
use Rattle.kube_cel_analysis.specs.Findings.{Naming}
use Rattle.kube_schema_rules.proofs.Sorted.{key_cmp, keys_sorted, same_key}
use Rattle.kube_schema.specs.Inside.{in_order, insert_key}

-- ---- truth values

or_none : (a : Bool) → (a || false) ≡ a
or_none true = refl
or_none false = refl

or_twice : (a b : Bool) → (a || b) ≡ (a || (a || b))
or_twice true b = refl
or_twice false b = refl

or_swap : (a b c : Bool) → (a || (b || c)) ≡ (b || (a || c))
or_swap true true c = refl
or_swap true false c = refl
or_swap false true c = refl
or_swap false false c = refl

-- ---- lists of names

both : (x : List ℕ) (xs ys : List (List ℕ)) (a b : Bool) → list_any (bytes_eq x) xs ≡ a → list_any (bytes_eq x) ys ≡ b → list_any (bytes_eq x) (xs ++ ys) ≡ (a || b)
both x xs ys a b e h = list_any-append (bytes_eq x) xs ys ∙ ap (λ c. c || list_any (bytes_eq x) ys) e ∙ ap (λ c. a || c) h

abbrev without : List ℕ → List (List ℕ) → List (List ℕ)
without y xs = filter (λ z. not (bytes_eq z y)) xs

without_any : (x y : List ℕ) (xs : List (List ℕ)) → list_any (bytes_eq x) (without y xs) ≡ (not (bytes_eq x y) && list_any (bytes_eq x) xs)
without_any x y xs =
    any-filter_same (bytes_eq x) (λ z. not (bytes_eq z y)) (not (bytes_eq x y)) (λ z h. ap (λ w. not (bytes_eq w y)) (sym ((bytes_eq-Decides x z).0 h))) xs

inserted_any : (x k : List ℕ) (ls : List (List ℕ)) → list_any (bytes_eq x) (insert_key k ls) ≡ (bytes_eq x k || list_any (bytes_eq x) ls)
inserted_any x k [] = refl
inserted_any x k (l ∷ ls) = by (key_cmp k l) refl (inserted_any x k ls)
  where
    by : (o : Ordering) → key_cmp k l ≡ o → list_any (bytes_eq x) (insert_key k ls) ≡ (bytes_eq x k || list_any (bytes_eq x) ls)
        → list_any (bytes_eq x) (match_ordering o (k ∷ l ∷ ls) (l ∷ ls) (l ∷ insert_key k ls)) ≡ (bytes_eq x k || (bytes_eq x l || list_any (bytes_eq x) ls))
    by Less e r = refl
    by Equal e r = or_twice (bytes_eq x l) (list_any (bytes_eq x) ls) ∙ ap (λ w. bytes_eq x w || (bytes_eq x l || list_any (bytes_eq x) ls)) (sym (same_key k l e))
    by Greater e r = ap (λ b. bytes_eq x l || b) r ∙ or_swap (bytes_eq x l) (bytes_eq x k) (list_any (bytes_eq x) ls)

ordered_any : (x : List ℕ) (ks : List (List ℕ)) → list_any (bytes_eq x) (in_order ks) ≡ list_any (bytes_eq x) ks
ordered_any x [] = refl
ordered_any x (k ∷ ks) = inserted_any x k (in_order ks) ∙ ap (λ b. bytes_eq x k || b) (ordered_any x ks)

-- ---- the names of calls

-- the name of the function that a node calls, if it is a call
abbrev call_name : Term → List (List ℕ)
call_name (call target y ts) = y ∷ []
call_name (qualified y ts) = y ∷ []
call_name _ = []

called_at : (x : List ℕ) (t : Term) → list_any (bytes_eq x) (call_name t) ≡ calls x t
called_at x (literal v) = refl
called_at x (ident y) = refl
called_at x (select a y) = refl
called_at x (has a y) = refl
called_at x (index a b) = refl
called_at x (unary o a) = refl
called_at x (binary o a b) = refl
called_at x (conditional a b c) = refl
called_at x (list_of ts) = refl
called_at x (map_with ps) = refl
called_at x (call target y ts) = or_none (bytes_eq x y)
called_at x (qualified y ts) = or_none (bytes_eq x y)
called_at x (macro k r y f b) = refl

called_among : (x : List ℕ) (ts : List Term) → list_any (bytes_eq x) (flat_map call_name ts) ≡ list_any (calls x) ts
called_among x [] = refl
called_among x (t ∷ ts) = both x (call_name t) (flat_map call_name ts) (calls x t) (list_any (calls x) ts) (called_at x t) (called_among x ts)

pub called_names : (t : Term) → (names : List (List ℕ)) × AreNames names (λ x. is_called x t)
called_names t =
    let names = flat_map call_name (nodes_of t) in
    (in_order names, record { ascending = keys_sorted names; exactly = λ x. ordered_any x names ∙ called_among x (nodes_of t) })

-- ---- free names

abbrev mutual
  frees : Term → List (List ℕ)
  frees (literal v) = []
  frees (ident y) = y ∷ []
  frees (select a y) = (frees a)
  frees (has a y) = (frees a)
  frees (index a b) = ((frees a) ++ (frees b))
  frees (unary o a) = (frees a)
  frees (binary o a b) = ((frees a) ++ (frees b))
  frees (conditional a b c) = ((frees a) ++ ((frees b) ++ (frees c)))
  frees (list_of ts) = (frees_in ts)
  frees (map_with ps) = (frees_in_pairs ps)
  frees (call target y ts) = ((frees_in target) ++ (frees_in ts))
  frees (qualified y ts) = (frees_in ts)
  frees (macro k r y f b) = ((frees r) ++ (without y ((frees_in f) ++ (frees b))))

  frees_in : Terms → List (List ℕ)
  frees_in no_terms = []
  frees_in (term_and t ts) = ((frees t) ++ (frees_in ts))

  frees_in_pairs : Pairs → List (List ℕ)
  frees_in_pairs no_pairs = []
  frees_in_pairs (pair_and k v ps) = ((frees k) ++ ((frees v) ++ (frees_in_pairs ps)))

mutual
  free_here : (x : List ℕ) (t : Term) → list_any (bytes_eq x) (frees t) ≡ is_free x t
  free_here x (literal v) = refl
  free_here x (ident y) = or_none (bytes_eq x y)
  free_here x (select a y) = (free_here x a)
  free_here x (has a y) = (free_here x a)
  free_here x (index a b) = (both x (frees a) (frees b) (is_free x a) (is_free x b) (free_here x a) (free_here x b))
  free_here x (unary o a) = (free_here x a)
  free_here x (binary o a b) = (both x (frees a) (frees b) (is_free x a) (is_free x b) (free_here x a) (free_here x b))
  free_here x (conditional a b c) = (both x (frees a) ((frees b) ++ (frees c)) (is_free x a) ((is_free x b) || (is_free x c)) (free_here x a) (both x (frees b) (frees c) (is_free x b) (is_free x c) (free_here x b) (free_here x c)))
  free_here x (list_of ts) = (free_in_terms x ts)
  free_here x (map_with ps) = (free_in_pairs x ps)
  free_here x (call target y ts) = (both x (frees_in target) (frees_in ts) (is_free_in_any x target) (is_free_in_any x ts) (free_in_terms x target) (free_in_terms x ts))
  free_here x (qualified y ts) = (free_in_terms x ts)
  free_here x (macro k r y f b) = (both x (frees r) (without y ((frees_in f) ++ (frees b))) (is_free x r) (not (bytes_eq x y) && ((is_free_in_any x f) || (is_free x b))) (free_here x r) (without_any x y ((frees_in f) ++ (frees b)) ∙ ap (λ c. not (bytes_eq x y) && c) (both x (frees_in f) (frees b) (is_free_in_any x f) (is_free x b) (free_in_terms x f) (free_here x b))))

  free_in_terms : (x : List ℕ) (ts : Terms) → list_any (bytes_eq x) (frees_in ts) ≡ is_free_in_any x ts
  free_in_terms x no_terms = refl
  free_in_terms x (term_and t ts) = (both x (frees t) (frees_in ts) (is_free x t) (is_free_in_any x ts) (free_here x t) (free_in_terms x ts))

  free_in_pairs : (x : List ℕ) (ps : Pairs) → list_any (bytes_eq x) (frees_in_pairs ps) ≡ is_free_in_pairs x ps
  free_in_pairs x no_pairs = refl
  free_in_pairs x (pair_and k v ps) = (both x (frees k) ((frees v) ++ (frees_in_pairs ps)) (is_free x k) ((is_free x v) || (is_free_in_pairs x ps)) (free_here x k) (both x (frees v) (frees_in_pairs ps) (is_free x v) (is_free_in_pairs x ps) (free_here x v) (free_in_pairs x ps)))

pub free_names : (t : Term) → (names : List (List ℕ)) × AreNames names (λ x. is_free x t)
free_names t = (in_order (frees t), record { ascending = keys_sorted (frees t); exactly = λ x. ordered_any x (frees t) ∙ free_here x t })

-- ---- for all trees at once

pub naming : Naming
naming = record { called = λ t. (called_names t).0; free = λ t. (free_names t).0; called_are = λ t. (called_names t).1; free_are = λ t. (free_names t).1 }
