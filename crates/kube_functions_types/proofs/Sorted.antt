-- Lists of entries in the order of their keys: inserting an entry, and lists with equal look-ups.
use Rattle.std.proofs.Common.{◌≡◌, List, [], ◌∷◌, Bool, true, false, cond, Option, Some, None, Ordering, Less, Equal, Greater, refl, sym, ap, ◌∙◌, subst}
use Rattle.std.specs.BTreeMap.{insert_entry, is_at}
use Rattle.std.specs.Cmp.{IsTotalOrder}
use Rattle.std.specs.List.{AllByRecursion}
use Rattle.std.specs.List.Sorted.{IsStrictlySortedBy}
use Rattle.std.specs.Map.{keys_of, lookup}
use Rattle.std.specs.Ordering.{is_eq, match_ordering, ordering_reverse}
use Rattle.std.proofs.lemmas.Cmp.{tied_itself, eq_by_cmp_equiv}
use Rattle.std.proofs.lemmas.Map.{lookup-none}
use Rattle.std.proofs.lemmas.Map.Entries.{none_past_head, none_below_head}
use Rattle.std.proofs.lemmas.Map.Keys.{sorted_head, sorted_tail, IsDistinct-from_sorted}
use Rattle.std.proofs.lemmas.Map.Lookups.{CmpEqualImpliesEq}

pub cons_sorted : {K : Type 0} (c : K → K → Ordering) (k : K) (ks : List K) → AllByRecursion (λ y. c k y ≡ Less) ks → IsStrictlySortedBy c ks → IsStrictlySortedBy c (k ∷ ks)
unfolding IsStrictlySortedBy
cons_sorted c k ks h t = (h, t)

pub nil_sorted : {K : Type 0} (c : K → K → Ordering) → IsStrictlySortedBy c []
unfolding IsStrictlySortedBy
nil_sorted c = tt

no_other : (a b : Bool) {X : Type 0} (x y : X) (z : Option X) → (a ≡ true → b ≡ true → ⊥) → cond a (Some x) (cond b (Some y) z) ≡ cond b (Some y) (cond a (Some x) z)
no_other true true x y z h = absurd (h refl refl)
no_other true false x y z h = refl
no_other false b x y z h = refl

over : (a : Bool) {X : Type 0} (x y : X) (z : Option X) → cond a (Some x) z ≡ cond a (Some x) (cond a (Some y) z)
over true x y z = refl
over false x y z = refl

is_eq-Equal : (o : Ordering) → is_eq o ≡ true → o ≡ Equal
is_eq-Equal Less h = cc
is_eq-Equal Equal h = refl
is_eq-Equal Greater h = cc

module _ {K : Type 0} {R : K → K → Ordering} (total : IsTotalOrder R) where
  above_all : (k l : K) (ks : List K) → R k l ≡ Less → AllByRecursion (λ y. R l y ≡ Less) ks → AllByRecursion (λ y. R k y ≡ Less) ks
  above_all k l [] h t = tt
  above_all k l (y ∷ ks) h t = (total.trans k l y h t.0, above_all k l ks h t.1)

  apart : (q k l : K) → R k l ≡ Greater → is_eq (R q l) ≡ true → is_eq (R q k) ≡ true → ⊥
  apart q k l h a b =
      let same : R q l ≡ R k l = total.congr q k l (is_eq-Equal (R q k) b) in
      let equal : R q l ≡ Equal = is_eq-Equal (R q l) a in
      let wrong : Equal ≡ Greater = sym equal ∙ same ∙ h in
      cc

module _ {K X : Type 0} {R : K → K → Ordering} (total : IsTotalOrder R) where
  placed_below : (l k : K) (v : X) (e : K × X) (es : List (K × X)) (o : Ordering) → R l k ≡ Less → AllByRecursion (λ y. R l y ≡ Less) (keys_of (e ∷ es))
      → AllByRecursion (λ y. R l y ≡ Less) (keys_of (insert_entry R es k v)) → AllByRecursion (λ y. R l y ≡ Less) (keys_of (match_ordering o ((k, v) ∷ e ∷ es) ((e.0, v) ∷ es) (e ∷ insert_entry R es k v)))
  placed_below l k v e es Less h t r = (h, t)
  placed_below l k v e es Equal h t r = t
  placed_below l k v e es Greater h t r = (t.0, r)

  all_below : (l k : K) (v : X) (es : List (K × X)) → R l k ≡ Less → AllByRecursion (λ y. R l y ≡ Less) (keys_of es) → AllByRecursion (λ y. R l y ≡ Less) (keys_of (insert_entry R es k v))
  all_below l k v [] h t = (h, tt)
  all_below l k v (e ∷ es) h t = placed_below l k v e es (R k e.0) h t (all_below l k v es h t.1)

  placed_sorted : (e : K × X) (es : List (K × X)) (k : K) (v : X) (o : Ordering) → R k e.0 ≡ o → IsStrictlySortedBy R (keys_of (e ∷ es)) → IsStrictlySortedBy R (keys_of (insert_entry R es k v))
      → IsStrictlySortedBy R (keys_of (match_ordering o ((k, v) ∷ e ∷ es) ((e.0, v) ∷ es) (e ∷ insert_entry R es k v)))
  placed_sorted e es k v Less h s r = cons_sorted R k (e.0 ∷ keys_of es) (h, above_all total k e.0 (keys_of es) h (sorted_head R e.0 (keys_of es) s)) s
  placed_sorted e es k v Equal h s r = s
  placed_sorted e es k v Greater h s r =
      cons_sorted R e.0 (keys_of (insert_entry R es k v)) (all_below e.0 k v es (total.antisymm e.0 k ∙ ap ordering_reverse h) (sorted_head R e.0 (keys_of es) s)) r

  -- inserting an entry keeps the order
  pub inserted_sorted : (es : List (K × X)) (k : K) (v : X) → IsStrictlySortedBy R (keys_of es) → IsStrictlySortedBy R (keys_of (insert_entry R es k v))
  inserted_sorted [] k v s = cons_sorted R k [] tt (nil_sorted R)
  inserted_sorted (e ∷ es) k v s = placed_sorted e es k v (R k e.0) refl s (inserted_sorted es k v (sorted_tail R e.0 (keys_of es) s))

  placed_found : CmpEqualImpliesEq R → (q : K) (e : K × X) (es : List (K × X)) (k : K) (v : X) (o : Ordering) → R k e.0 ≡ o
      → lookup (is_at (R q)) (insert_entry R es k v) ≡ cond (is_eq (R q k)) (Some v) (lookup (is_at (R q)) es)
      → lookup (is_at (R q)) (match_ordering o ((k, v) ∷ e ∷ es) ((e.0, v) ∷ es) (e ∷ insert_entry R es k v)) ≡ cond (is_eq (R q k)) (Some v) (cond (is_eq (R q e.0)) (Some e.1) (lookup (is_at (R q)) es))
  placed_found exact q e es k v Less h r = refl
  placed_found exact q e es k v Equal h r =
      ap (λ l. cond (is_eq (R q l)) (Some v) (lookup (is_at (R q)) es)) (sym (exact k e.0 h))
      ∙ over (is_eq (R q k)) v e.1 (lookup (is_at (R q)) es)
      ∙ ap (λ l. cond (is_eq (R q k)) (Some v) (cond (is_eq (R q l)) (Some e.1) (lookup (is_at (R q)) es))) (exact k e.0 h)
  placed_found exact q e es k v Greater h r =
      ap (cond (is_eq (R q e.0)) (Some e.1)) r
      ∙ no_other (is_eq (R q e.0)) (is_eq (R q k)) e.1 v (lookup (is_at (R q)) es) (apart total q k e.0 h)

  -- look-ups after an entry is inserted
  pub inserted_found : CmpEqualImpliesEq R → (q : K) (es : List (K × X)) (k : K) (v : X) → lookup (is_at (R q)) (insert_entry R es k v) ≡ cond (is_eq (R q k)) (Some v) (lookup (is_at (R q)) es)
  inserted_found exact q [] k v = refl
  inserted_found exact q (e ∷ es) k v = placed_found exact q e es k v (R k e.0) refl (inserted_found exact q es k v)

  found : List (K × X) → K → Option X
  found es q = lookup (is_at (R q)) es

  found_nothing : (q : K) → found [] q ≡ None
  unfolding found
  found_nothing q = refl

  at_head : (x : K × X) (xs : List (K × X)) → found (x ∷ xs) x.0 ≡ Some x.1
  unfolding found
  at_head x xs = ap (λ b. cond b (Some x.1) (lookup (is_at (R x.0)) xs)) (ap is_eq (tied_itself total x.0))

  below_head : (q : K) (x : K × X) (xs : List (K × X)) → IsStrictlySortedBy R (keys_of (x ∷ xs)) → R q x.0 ≡ Less → found (x ∷ xs) q ≡ None
  unfolding found
  below_head q x xs s h = lookup-none (is_at (R q)) (x ∷ xs) (none_below_head total q x xs s h)

  past_head : (q : K) (x : K × X) (xs : List (K × X)) → IsStrictlySortedBy R (keys_of (x ∷ xs)) → is_eq (R q x.0) ≡ true → found xs q ≡ None
  unfolding found
  past_head q x xs s h = lookup-none (is_at (R q)) xs (none_past_head (eq_by_cmp_equiv total) q x xs (IsDistinct-from_sorted R (keys_of (x ∷ xs)) s) h)

  not_head : (q : K) (x : K × X) (xs : List (K × X)) → is_eq (R q x.0) ≡ false → found (x ∷ xs) q ≡ found xs q
  unfolding found
  not_head q x xs h = ap (λ b. cond b (Some x.1) (lookup (is_at (R q)) xs)) h

  heads_tie : (x y : K × X) (xs ys : List (K × X)) → IsStrictlySortedBy R (keys_of (x ∷ xs)) → IsStrictlySortedBy R (keys_of (y ∷ ys))
      → ((q : K) → found (x ∷ xs) q ≡ found (y ∷ ys) q) → (o : Ordering) → R x.0 y.0 ≡ o → R x.0 y.0 ≡ Equal
  heads_tie x y xs ys s t h Less p = let e : Some x.1 ≡ None = sym (at_head x xs) ∙ h x.0 ∙ below_head x.0 y ys t p in cc
  heads_tie x y xs ys s t h Equal p = p
  heads_tie x y xs ys s t h Greater p =
      let e : Some y.1 ≡ None = sym (at_head y ys) ∙ sym (h y.0) ∙ below_head y.0 x xs s (total.antisymm y.0 x.0 ∙ ap ordering_reverse p) in
      cc

  tails_alike : (q k : K) (v : X) (xs ys : List (K × X)) → IsStrictlySortedBy R (keys_of ((k, v) ∷ xs)) → IsStrictlySortedBy R (keys_of ((k, v) ∷ ys))
      → found ((k, v) ∷ xs) q ≡ found ((k, v) ∷ ys) q → (b : Bool) → is_eq (R q k) ≡ b → found xs q ≡ found ys q
  tails_alike q k v xs ys s t h true e = past_head q (k, v) xs s e ∙ sym (past_head q (k, v) ys t e)
  tails_alike q k v xs ys s t h false e = sym (not_head q (k, v) xs e) ∙ h ∙ not_head q (k, v) ys e

  some_same : (v w : X) → Some v ≡ Some w → v ≡ w
  some_same v w e = cc

  module _ (exact : CmpEqualImpliesEq R) where
    heads_same : (x y : K × X) (xs ys : List (K × X)) → IsStrictlySortedBy R (keys_of (x ∷ xs)) → IsStrictlySortedBy R (keys_of (y ∷ ys))
        → ((q : K) → found (x ∷ xs) q ≡ found (y ∷ ys) q) → x ≡ y
    heads_same x y xs ys s t h =
        let keys : x.0 ≡ y.0 = exact x.0 y.0 (heads_tie x y xs ys s t h (R x.0 y.0) refl) in
        let values : x.1 ≡ y.1 = some_same x.1 y.1 (sym (at_head x xs) ∙ h x.0 ∙ ap (found (y ∷ ys)) keys ∙ at_head y ys) in
        λ i. (keys i, values i)

    alike : (es fs : List (K × X)) → IsStrictlySortedBy R (keys_of es) → IsStrictlySortedBy R (keys_of fs) → ((q : K) → found es q ≡ found fs q) → es ≡ fs
    alike [] [] s t h = refl
    alike [] (y ∷ ys) s t h = let e : None ≡ Some y.1 = sym (found_nothing y.0) ∙ h y.0 ∙ at_head y ys in cc
    alike (x ∷ xs) [] s t h = let e : Some x.1 ≡ None = sym (at_head x xs) ∙ h x.0 ∙ found_nothing x.0 in cc
    alike (x ∷ xs) (y ∷ ys) s t h =
        let same : x ≡ y = heads_same x y xs ys s t h in
        let back : IsStrictlySortedBy R (keys_of (x ∷ ys)) = subst (λ (e : K × X). IsStrictlySortedBy R (keys_of (e ∷ ys))) (sym same) t in
        let so : (q : K) → found (x ∷ xs) q ≡ found (x ∷ ys) q = λ q. h q ∙ ap (λ (e : K × X). found (e ∷ ys) q) (sym same) in
        let rest : xs ≡ ys =
        alike xs ys (sorted_tail R x.0 (keys_of xs) s) (sorted_tail R y.0 (keys_of ys) t)
        (λ q. tails_alike q x.0 x.1 xs ys s back (so q) (is_eq (R q x.0)) refl) in
        λ i. same i ∷ rest i

    -- sorted lists with equal look-ups are equal
    pub same_found : (es fs : List (K × X)) → IsStrictlySortedBy R (keys_of es) → IsStrictlySortedBy R (keys_of fs)
        → ((q : K) → lookup (is_at (R q)) es ≡ lookup (is_at (R q)) fs) → es ≡ fs
    unfolding found
    same_found es fs s t h = alike es fs s t h
