-- How the distinct items of a list are collected.
use Rattle.std.proofs.Common.{◌≡◌, ℕ, zero, suc, ◌+◌, ◌<◌, ◌≤◌, drop-cons, subst, List, [], ◌∷◌, ◌++◌, Bool, true, false, cond, not, ◌&&◌, ◌||◌, map, drop, length, get_or, refl, ap, sym, ◌∙◌, append_assoc, arith}
use Rattle.std.specs.List.{filter}
use Rattle.std.proofs.lemmas.List.{append-nil}
use Rattle.std.proofs.lemmas.List.Folds.{list_any-append}
use Rattle.cel_value.specs.Data.{Data}
use Rattle.cel_value.specs.Same.{same}
use Rattle.cel_value.specs.SameLaws.{same-equiv}
use Rattle.cel_value.specs.View.{view}
use Rattle.cel_value.specs.declared.value.Value.{Value}
use Rattle.kube_functions_lists.specs.Lists.{distinct_items, with_new}
use Rattle.kube_functions_lists.specs.Sets.{is_in}

-- ---- filters

cond_cong : (b c : Bool) (d : Data) (ds es : List Data) → b ≡ c → ds ≡ es → cond b (d ∷ ds) ds ≡ cond c (d ∷ es) es
cond_cong b c d ds es h k = λ i. cond (h i) (d ∷ k i) (k i)

filter_cond : (p : Data → Bool) (b : Bool) (d : Data) (ds : List Data) → filter p (cond b (d ∷ ds) ds) ≡ cond (b && p d) (d ∷ filter p ds) (filter p ds)
filter_cond p true d ds = refl
filter_cond p false d ds = refl

-- one filter after another
pub filter_twice : (p q r : Data → Bool) → ((d : Data) → (q d && p d) ≡ r d) → (ds : List Data) → filter p (filter q ds) ≡ filter r ds
filter_twice p q r h [] = refl
filter_twice p q r h (d ∷ ds) = filter_cond p (q d) d (filter q ds) ∙ cond_cong _ _ d _ _ (h d) (filter_twice p q r h ds)

-- ---- values that equal an item

pub among_same : (x e : Data) → same x e ≡ true → (ks : List Data) → is_in ks x ≡ is_in ks e
among_same x e h [] = refl
among_same x e h (k ∷ ks) = λ i. same-equiv.congr x e k h i || among_same x e h ks i

or_false : (a : Bool) → (a || false) ≡ a
or_false true = refl
or_false false = refl

not_or : (a b : Bool) → (not b && not a) ≡ not (a || b)
not_or true true = refl
not_or true false = refl
not_or false true = refl
not_or false false = refl

pub among_more : (ks : List Data) (x e : Data) → is_in (ks ++ x ∷ []) e ≡ (is_in ks e || same e x)
among_more ks x e = list_any-append (same e) ks (x ∷ []) ∙ ap (λ b. is_in ks e || b) (or_false (same e x))

-- not in the list, and not equal to x, which is in it
absorbed : (ks : List Data) (x e : Data) → is_in ks x ≡ true → (not (same x e) && not (is_in ks e)) ≡ not (is_in ks e)
absorbed ks x e h = at (same x e) refl
  where
    at : (b : Bool) → same x e ≡ b → (not (same x e) && not (is_in ks e)) ≡ not (is_in ks e)
    at true k = let found : is_in ks e ≡ true = sym (among_same x e k ks) ∙ h in rw (k, found) refl
    at false k = rw k refl

widened : (ks : List Data) (x e : Data) → (not (same x e) && not (is_in ks e)) ≡ not (is_in (ks ++ x ∷ []) e)
widened ks x e = not_or (is_in ks e) (same x e) ∙ ap (λ b. not (is_in ks e || b)) (same-equiv.symm x e) ∙ ap not (sym (among_more ks x e))

-- ---- the items that are kept

-- the items of a list that aren't in another one
abbrev pub new_to : List Data → List Data → List Data
new_to ks ds = filter (λ d. not (is_in ks d)) ds

pub new_to_none : (ds : List Data) → new_to [] ds ≡ ds
new_to_none [] = refl
new_to_none (d ∷ ds) = ap (λ es. d ∷ es) (new_to_none ds)

pub past_old : (ks : List Data) (x : Data) (ds : List Data) → is_in ks x ≡ true → new_to ks (distinct_items (x ∷ ds)) ≡ new_to ks (distinct_items ds)
past_old ks x ds h =
    ap (λ b. cond (not b) (x ∷ new_to ks (filter (λ e. not (same x e)) (distinct_items ds))) (new_to ks (filter (λ e. not (same x e)) (distinct_items ds)))) h
    ∙ filter_twice (λ d. not (is_in ks d)) (λ e. not (same x e)) (λ d. not (is_in ks d)) (λ e. absorbed ks x e h) (distinct_items ds)

pub past_new : (ks : List Data) (x : Data) (ds : List Data) → is_in ks x ≡ false → ks ++ new_to ks (distinct_items (x ∷ ds)) ≡ (ks ++ x ∷ []) ++ new_to (ks ++ x ∷ []) (distinct_items ds)
past_new ks x ds h =
    ap (λ b. ks ++ cond (not b) (x ∷ new_to ks (filter (λ e. not (same x e)) (distinct_items ds))) (new_to ks (filter (λ e. not (same x e)) (distinct_items ds)))) h
    ∙ ap (λ es. ks ++ x ∷ es) (filter_twice (λ d. not (is_in ks d)) (λ e. not (same x e)) (λ d. not (is_in (ks ++ x ∷ []) d)) (widened ks x) (distinct_items ds))
    ∙ sym (append_assoc ks (x ∷ []) (new_to (ks ++ x ∷ []) (distinct_items ds)))

-- the items kept so far, followed by those still to be kept
abbrev pub gathered : List Data → List Data → List Data
gathered ks ds = ks ++ new_to ks (distinct_items ds)

pub one_more : (ks : List Data) (x : Data) (ds : List Data) → gathered ks (x ∷ ds) ≡ gathered (with_new ks x) ds
one_more ks x ds = at (is_in ks x) refl
  where
    at : (b : Bool) → is_in ks x ≡ b → gathered ks (x ∷ ds) ≡ gathered (with_new ks x) ds
    at true h = ap (λ es. ks ++ es) (past_old ks x ds h) ∙ ap (λ b. gathered (cond b ks (ks ++ x ∷ [])) ds) (sym h)
    at false h = past_new ks x ds h ∙ ap (λ b. gathered (cond b ks (ks ++ x ∷ [])) ds) (sym h)

pub started : (ks xs : List Value) → ks ≡ [] → distinct_items (map view xs) ≡ gathered (map view ks) (map view xs)
started ks xs h = subst (λ zs. distinct_items (map view xs) ≡ gathered (map view zs) (map view xs)) (sym h) (sym (new_to_none (distinct_items (map view xs))))

next_index : (i : ℕ) → suc i ≡ i + 1
next_index i = omega arith

pub rest_is : (xs : List Value) (i : ℕ) (x : Value) → i < length xs → x ≡ get_or xs i x → drop i xs ≡ x ∷ drop (i + 1) xs
rest_is xs i x lt is = drop-cons xs i x lt ∙ (λ k. sym is k ∷ drop (next_index i k) xs)

pub continued : (all ls : List Data) (xs : List Value) (ks : List Data) (i : ℕ) (x : Value) → i < length xs → x ≡ get_or xs i x → ls ≡ with_new ks (view x)
    → all ≡ gathered ks (map view (drop i xs)) → all ≡ gathered ls (map view (drop (i + 1) xs))
continued all ls xs ks i x lt is e h =
    h ∙ ap (λ ys. gathered ks (map view ys)) (rest_is xs i x lt is) ∙ one_more ks (view x) (map view (drop (i + 1) xs))
    ∙ ap (λ zs. gathered zs (map view (drop (i + 1) xs))) (sym e)

pub drop_past : (xs : List Value) (i : ℕ) → length xs ≤ i → drop i xs ≡ []
drop_past [] zero h = refl
drop_past [] (suc i) h = refl
drop_past (x ∷ xs) zero h = absurd (omega (arith, h))
drop_past (x ∷ xs) (suc i) h = drop_past xs i (omega (arith, h))

pub finished : (all ks : List Data) (xs : List Value) (i : ℕ) → length xs ≤ i → all ≡ gathered ks (map view (drop i xs)) → ks ≡ all
finished all ks xs i past h = sym (h ∙ ap (λ ys. gathered ks (map view ys)) (drop_past xs i past) ∙ append-nil ks)
