-- Values compare exactly within their classes.
use Rattle.std.proofs.Common.{◌≡◌, ℕ, ℤ, List, [], ◌∷◌, map, Bool, true, false, cond, ◌&&◌, Option, Some, None, is_some, unwrap_or, refl, ap, sym, ◌∙◌, subst}
use Rattle.std.specs.Prelude.{◌==◌, nat_lt}
use Rattle.std.specs.Cmp.{IsTotalOrder, IsStrictWeakOrder}
use Rattle.std.specs.Cmp.Lexicographic.{slice_cmp}
use Rattle.std.specs.List.{list_all, filter}
use Rattle.std.specs.List.Sorted.{IsSortedBy, IsStableBy, ties}
use Rattle.std.specs.Ordering.{is_some_and, is_lt, nat_cmp, int_cmp, on, then_cmp, ordering_then}
use Rattle.std.specs.declared.cmp.Ordering.{Ordering}
use Rattle.std.specs.declared.cmp.Ordering.TheVariants.{Less, Equal, Greater}
use Rattle.std.proofs.lemmas.Bool.{eqb-true}
use Rattle.std.proofs.lemmas.Cmp.{int_cmp_total, nat_cmp_total, nat_list_cmp_total, lists_total, on_total, then_total, tied_itself, nat_eq_equiv}
use Rattle.std.proofs.lemmas.List.Sorted.{ranks_by}
use Rattle.cel_value.specs.Data.{Data}
use Rattle.cel_value.specs.View.{view}
use Rattle.cel_value.specs.declared.value.Value.{Value}
use Rattle.cel_value.specs.Same.{Shape, shape_of, leaf, shape, class_of, is_ordered, has_order, shape_order, comparison}
use Rattle.cel_stdlib.specs.Extremes.{all_compare}
use Rattle.kube_functions_lists.specs.Orders.{sorted_by, comes_first, ascending, have_order, class_number, order_of_all, goes_before}
use Rattle.kube_functions_lists.proofs.Stable.{both, and_true, pass, stable_order, stable_sorted, rises_sorted, sorted_from, map_sorted, sorted_agree}

-- ---- how two values compare

abbrev numbers : Shape → List ℤ
numbers (shape_of k ns s p) = ns

abbrev letters : Shape → List ℕ
letters (shape_of k ns s p) = s

abbrev shape_rank : Shape → Shape → Ordering
shape_rank = then_cmp (on numbers (slice_cmp int_cmp)) (on letters (slice_cmp nat_cmp))

abbrev pub class : Data → ℕ
class d = class_of (shape d)

shape_compares : (x y : Shape) → shape_order x y ≡ cond ((class_of x == class_of y) && is_ordered (class_of x)) (Some (shape_rank x y)) None
shape_compares (shape_of k ns s p) (shape_of l ms t q) = refl

is_some_cond : (b : Bool) (o : Ordering) → is_some (cond b (Some o) None) ≡ b
is_some_cond true o = refl
is_some_cond false o = refl

pub some_compared : (d e : Data) → is_some (comparison d e) ≡ ((class d == class e) && is_ordered (class d))
some_compared d e = ap is_some (shape_compares (shape d) (shape e)) ∙ is_some_cond _ _

same_trans : (k l m : ℕ) → (k == l) ≡ true → (k == m) ≡ true → (l == m) ≡ true
same_trans k l m h g = subst (λ n. (n == m) ≡ true) (eqb-true k l h) g

ordered_at : (k l : ℕ) → (k == l) ≡ true → is_ordered k ≡ true → is_ordered l ≡ true
ordered_at k l h g = subst (λ n. is_ordered n ≡ true) (eqb-true k l h) g

-- two values that compare with a third one compare
pub third : (d x y : Data) → is_some (comparison d x) ≡ true → is_some (comparison d y) ≡ true → is_some (comparison x y) ≡ true
third d x y h k =
    let a = both (class d == class x) (is_ordered (class d)) (sym (some_compared d x) ∙ h) in
    let b = both (class d == class y) (is_ordered (class d)) (sym (some_compared d y) ∙ k) in
    some_compared x y ∙ and_true _ _ (same_trans (class d) (class x) (class y) a.0 b.0) (ordered_at (class d) (class x) a.0 a.1)

pub itself : (d x : Data) → is_some (comparison d x) ≡ true → is_some (comparison d d) ≡ true
itself d x h =
    let a = both (class d == class x) (is_ordered (class d)) (sym (some_compared d x) ∙ h) in
    some_compared d d ∙ and_true _ _ (nat_eq_equiv.refl (class d)) a.1

-- ---- a value that compares with all others

two_ways : (s t : Bool) → (s ≡ true → t ≡ true) → (t ≡ true → s ≡ true) → s ≡ t
two_ways true t f g = sym (f refl)
two_ways false true f g = g refl
two_ways false false f g = refl

pub one_for_all : (d : Data) (ds : List Data) → list_all (λ w. is_some (comparison d w)) ds ≡ have_order (d ∷ ds)
one_for_all d [] = refl
one_for_all d (e ∷ ds) = two_ways _ _ to from
  where
    to : list_all (λ w. is_some (comparison d w)) (e ∷ ds) ≡ true → all_compare (d ∷ e ∷ ds) ≡ true
    to h =
        let near = both (is_some (comparison d e)) (list_all (λ w. is_some (comparison d w)) ds) h in
        let all = and_true (is_some (comparison d d)) (list_all (λ w. is_some (comparison d w)) (e ∷ ds)) (itself d e near.0) h in
        pass (λ w. is_some (comparison d w)) (λ v. list_all (λ w. is_some (comparison v w)) (d ∷ e ∷ ds))
        (λ v k. pass (λ w. is_some (comparison d w)) (λ w. is_some (comparison v w)) (λ w l. third d v w k l) (d ∷ e ∷ ds) all) (d ∷ e ∷ ds) all

    from : all_compare (d ∷ e ∷ ds) ≡ true → list_all (λ w. is_some (comparison d w)) (e ∷ ds) ≡ true
    from h = (both (is_some (comparison d d)) _ (both (list_all (λ w. is_some (comparison d w)) (d ∷ e ∷ ds)) _ h).0).1

-- ---- an order of all values

abbrev flat : Data → Shape
flat d = cond (has_order d) (shape d) (leaf 0 [] [])

abbrev pub total_order : Data → Data → Ordering
total_order = then_cmp (on class_number nat_cmp) (on flat shape_rank)

pub total : IsTotalOrder total_order
total = then_total (on_total class_number nat_cmp_total) (on_total flat (then_total (on_total numbers (lists_total int_cmp_total)) (on_total letters nat_list_cmp_total)))

and_false : (a : Bool) → (a && false) ≡ false
and_false true = refl
and_false false = refl

tied : (k l : ℕ) → (k == l) ≡ true → nat_cmp k l ≡ Equal
tied k l h = ap (nat_cmp k) (sym (eqb-true k l h)) ∙ tied_itself nat_cmp_total k

untied_by : (s t : Bool) (r : Ordering) → t ≡ false → ordering_then (cond s Less (cond t Equal Greater)) r ≡ cond s Less (cond t Equal Greater)
untied_by true t r h = refl
untied_by false true r h = absurd (cc)
untied_by false false r h = refl

untied : (k l : ℕ) (r : Ordering) → (k == l) ≡ false → ordering_then (nat_cmp k l) r ≡ nat_cmp k l
untied k l r h = untied_by (nat_lt k l) (k == l) r h

apart : (k l : ℕ) → is_ordered k ≡ true → is_ordered l ≡ false → (k == l) ≡ false
apart k l h g = at (k == l) refl
  where
    at : (b : Bool) → (k == l) ≡ b → (k == l) ≡ false
    at false e = e
    at true e = let no : true ≡ false = sym (ordered_at k l e h) ∙ g in absurd (cc)

zero_apart : (l : ℕ) → is_ordered l ≡ true → (0 == l) ≡ false
zero_apart l h = at (0 == l) refl
  where
    at : (b : Bool) → (0 == l) ≡ b → (0 == l) ≡ false
    at false e = e
    at true e = let no : false ≡ true = ap is_ordered (eqb-true 0 l e) ∙ h in absurd (cc)

both_ordered : (e : Bool) (k l : ℕ) (r : Ordering) → (k == l) ≡ e → unwrap_or (cond (e && true) (Some r) None) (nat_cmp k l) ≡ ordering_then (nat_cmp k l) r
both_ordered true k l r h = sym (ap (λ o. ordering_then o r) (tied k l h))
both_ordered false k l r h = sym (untied k l r h)

agree : (b c : Bool) (k l : ℕ) (x y : Shape) → is_ordered k ≡ b → is_ordered l ≡ c
    → unwrap_or (cond ((k == l) && b) (Some (shape_rank x y)) None) (nat_cmp (cond b k 0) (cond c l 0))
    ≡ ordering_then (nat_cmp (cond b k 0) (cond c l 0)) (shape_rank (cond b x (leaf 0 [] [])) (cond c y (leaf 0 [] [])))
agree true true k l x y h g = both_ordered (k == l) k l (shape_rank x y) refl
agree true false k l x y h g =
    ap (λ e. unwrap_or (cond (e && true) (Some (shape_rank x y)) None) (nat_cmp k 0)) (apart k l h g) ∙ sym (untied k 0 (shape_rank x (leaf 0 [] [])) (apart k 0 h refl))
agree false true k l x y h g =
    ap (λ e. unwrap_or (cond e (Some (shape_rank x y)) None) (nat_cmp 0 l)) (and_false (k == l)) ∙ sym (untied 0 l (shape_rank (leaf 0 [] []) y) (zero_apart l g))
agree false false k l x y h g = ap (λ e. unwrap_or (cond e (Some (shape_rank x y)) None) (nat_cmp 0 0)) (and_false (k == l))

pub same_order : (d e : Data) → order_of_all d e ≡ total_order d e
same_order d e =
    ap (λ o. unwrap_or o (nat_cmp (class_number d) (class_number e))) (shape_compares (shape d) (shape e))
    ∙ agree (has_order d) (has_order e) (class d) (class e) (shape d) (shape e) refl refl

-- ---- the order of a list

abbrev pub earlier : Value → Value → Bool
earlier x y = is_lt (order_of_all (view x) (view y))

pub earlier_weak : IsStrictWeakOrder earlier
earlier_weak = subst (λ lt. IsStrictWeakOrder lt) (λ i x y. is_lt (sym (same_order (view x) (view y)) i)) (ranks_by total view)

some_case : (o : Option Ordering) (q : Ordering) → is_some o ≡ true → is_lt (unwrap_or o q) ≡ is_some_and is_lt o
some_case None q h = absurd (cc)
some_case (Some o) q h = refl

-- if all compare with the first, their order is the order of all values
ascending_alike : (ds : List Data) → have_order ds ≡ true → sorted_by (λ d e. is_lt (order_of_all d e)) ds ≡ ascending ds
ascending_alike [] h = refl
ascending_alike (d ∷ []) h = refl
ascending_alike (d ∷ e ∷ ds) h =
    sorted_agree (λ x y. is_lt (order_of_all x y)) comes_first (λ w. is_some (comparison d w))
    (λ x y a b. some_case (comparison x y) (nat_cmp (class_number x) (class_number y)) (third d x y a b))
    (d ∷ e ∷ ds) (both (list_all (λ w. is_some (comparison d w)) (d ∷ e ∷ ds)) _ h).0

-- the values of the copies after a stable sort
pub sorted_values : (vs copied ws : List Value) → have_order (map view vs) ≡ true → map view copied ≡ map view vs → IsSortedBy earlier ws → IsStableBy earlier copied ws → map view ws ≡ ascending (map view vs)
sorted_values vs copied ws h same up stable =
    ap (map view) (stable_order earlier earlier_weak copied ws up stable) ∙ map_sorted view (λ d e. is_lt (order_of_all d e)) copied
    ∙ ap (sorted_by (λ d e. is_lt (order_of_all d e))) same ∙ ascending_alike (map view vs) h

-- ---- the one stable order of a list

before_weak : IsStrictWeakOrder goes_before
before_weak = subst (λ lt. IsStrictWeakOrder lt) (λ i d e. is_lt (sym (same_order d e) i)) (ranks_by total (λ d. d))

pub ascends : (ds : List Data) → have_order ds ≡ true → IsSortedBy goes_before (ascending ds)
ascends ds h = subst (IsSortedBy goes_before) (ascending_alike ds h) (sorted_from goes_before before_weak (sorted_by goes_before ds) (rises_sorted goes_before before_weak ds))

pub stays : (ds : List Data) → have_order ds ≡ true → IsStableBy goes_before ds (ascending ds)
stays ds h w = ap (filter (ties goes_before w)) (sym (ascending_alike ds h)) ∙ stable_sorted goes_before before_weak w ds

pub one_ascending : (ds es : List Data) → have_order ds ≡ true → IsSortedBy goes_before es → IsStableBy goes_before ds es → es ≡ ascending ds
one_ascending ds es h up same = stable_order goes_before before_weak ds es up same ∙ ascending_alike ds h
