-- Which of several values is the first least or greatest one.
use Rattle.std.proofs.Common.{◌≡◌, ℕ, ◌+◌, ◌<◌, ◌≤◌, ℤ, length, map, take, drop, get_or, option_map, arith, List, [], ◌∷◌, ◌++◌, Bool, true, false, cond, not, ◌&&◌, Option, Some, None, is_some, refl, ap, sym, ◌∙◌, subst, append_assoc}
use Rattle.std.specs.Prelude.{◌==◌}
use Rattle.std.specs.Cmp.{IsTotalOrder}
use Rattle.std.specs.Cmp.Lexicographic.{slice_cmp}
use Rattle.std.specs.List.{list_all, find}
use Rattle.std.specs.Ordering.{is_some_and, is_lt, is_gt, nat_cmp, int_cmp, on, then_cmp, flip_args, ordering_reverse}
use Rattle.std.specs.declared.cmp.Ordering.{Ordering}
use Rattle.std.specs.declared.cmp.Ordering.TheVariants.{Less, Equal, Greater}
use Rattle.std.proofs.lemmas.Bool.{eqb-true}
use Rattle.std.proofs.lemmas.Cmp.{int_cmp_total, nat_list_cmp_total, lists_total, on_total, then_total, back_total, tied_itself, alike_right, nat_eq_equiv}
use Rattle.std.proofs.lemmas.List.{take_more, take_all, map_push, map-append, take-append-drop}
use Rattle.std.proofs.lemmas.List.Folds.{list_all-append}
use Rattle.cel_value.specs.Data.{Data, Items}
use Rattle.cel_value.specs.Parts.{items_in}
use Rattle.cel_value.specs.View.{view, items_view}
use Rattle.cel_value.specs.declared.value.Value.{Value}
use Rattle.cel_semantics.specs.Ranges.{items_list}
use Rattle.cel_semantics.proofs.Lookups.{items_list-items_of}
use Rattle.cel_value.specs.Same.{Shape, shape_of, shape, class_of, is_ordered, shape_order, comparison}
use Rattle.cel_stdlib.specs.Extremes.{goes_before, stands_before, is_extreme, all_compare, first_extreme, least_or_greatest, values_among, better}
use Rattle.cel_stdlib.specs.declared.extremes.Extreme.{Extreme}
use Rattle.cel_stdlib.specs.declared.extremes.Extreme.TheVariants.{Least, Greatest}

both : (a b : Bool) → (a && b) ≡ true → (a ≡ true) × (b ≡ true)
both true true e = (refl, refl)
both true false e = absurd (cc)
both false b e = absurd (cc)

and_true : (a b : Bool) → a ≡ true → b ≡ true → (a && b) ≡ true
and_true a b h k = rw (h, k)

-- ---- how two values compare

abbrev numbers : Shape → List ℤ
numbers (shape_of k ns s p) = ns

abbrev letters : Shape → List ℕ
letters (shape_of k ns s p) = s

abbrev shape_rank : Shape → Shape → Ordering
shape_rank = then_cmp (on numbers (slice_cmp int_cmp)) (on letters (slice_cmp nat_cmp))

abbrev rank : Data → Data → Ordering
rank = on shape shape_rank

rank_total : IsTotalOrder rank
rank_total = on_total shape (then_total (on_total numbers (lists_total int_cmp_total)) (on_total letters nat_list_cmp_total))

abbrev class : Data → ℕ
class d = class_of (shape d)

abbrev alike : Data → Data → Bool
alike d e = (class d == class e) && is_ordered (class d)

shape_compares : (x y : Shape) → shape_order x y ≡ cond ((class_of x == class_of y) && is_ordered (class_of x)) (Some (shape_rank x y)) None
shape_compares (shape_of k ns s p) (shape_of l ms t q) = refl

compares : (d e : Data) → comparison d e ≡ cond (alike d e) (Some (rank d e)) None
compares d e = shape_compares (shape d) (shape e)

compares_if : (d e : Data) (b : Bool) → alike d e ≡ b → comparison d e ≡ cond b (Some (rank d e)) None
compares_if d e b h = compares d e ∙ ap (λ t. cond t (Some (rank d e)) None) h

alike_some : (d e : Data) (o : Ordering) → comparison d e ≡ Some o → alike d e ≡ true
alike_some d e o h = at (alike d e) refl
  where
    at : (b : Bool) → alike d e ≡ b → alike d e ≡ true
    at true k = k
    at false k = let none : None ≡ Some o = sym (compares_if d e false k) ∙ h in absurd (cc)

alike_none : (d e : Data) → comparison d e ≡ None → alike d e ≡ false
alike_none d e h = at (alike d e) refl
  where
    at : (b : Bool) → alike d e ≡ b → alike d e ≡ false
    at false k = k
    at true k = let some : Some (rank d e) ≡ None = sym (compares_if d e true k) ∙ h in absurd (cc)

-- ---- the order in which the extreme comes first

abbrev order : Extreme → Data → Data → Ordering
order Least = rank
order Greatest = flip_args rank

order_total : (end : Extreme) → IsTotalOrder (order end)
order_total Least = rank_total
order_total Greatest = back_total rank_total

reversed : (o p : Ordering) → p ≡ ordering_reverse o → is_gt o ≡ is_lt p
reversed Less p h = sym (ap is_lt h)
reversed Equal p h = sym (ap is_lt h)
reversed Greater p h = sym (ap is_lt h)

goes : (end : Extreme) (d e : Data) → goes_before end (rank d e) ≡ is_lt (order end d e)
goes Least d e = refl
goes Greatest d e = reversed (rank d e) (rank e d) (rank_total.antisymm e d)

stands : (end : Extreme) (d e : Data) → alike d e ≡ true → stands_before end d e ≡ is_lt (order end d e)
stands end d e h = ap (is_some_and (goes_before end)) (compares_if d e true h) ∙ goes end d e

to_less : (o : Ordering) → is_lt o ≡ true → o ≡ Less
to_less Less h = refl
to_less Equal h = absurd (cc)
to_less Greater h = absurd (cc)

module _ {R : Data → Data → Ordering} (total : IsTotalOrder R) where
  lt_trans : (a b c : Data) → is_lt (R a b) ≡ true → is_lt (R b c) ≡ true → is_lt (R a c) ≡ true
  lt_trans a b c h k = ap is_lt (total.trans a b c (to_less _ h) (to_less _ k))

  lt_asym : (a b : Data) → is_lt (R a b) ≡ true → is_lt (R b a) ≡ false
  lt_asym a b h = ap is_lt (total.antisymm b a ∙ ap ordering_reverse (to_less _ h))

  lt_irrefl : (a : Data) → is_lt (R a a) ≡ false
  lt_irrefl a = ap is_lt (tied_itself total a)

  lt_le : (x b e : Data) → is_lt (R x b) ≡ true → is_lt (R e b) ≡ false → is_lt (R x e) ≡ true
  lt_le x b e lt le = at (R e b) refl le
    where
      at : (o : Ordering) → R e b ≡ o → is_lt o ≡ false → is_lt (R x e) ≡ true
      at Less k h = absurd (cc)
      at Equal k h = ap is_lt (alike_right total e b x k) ∙ lt
      at Greater k h = ap is_lt (total.trans x b e (to_less _ lt) (total.antisymm b e ∙ ap ordering_reverse k))

-- ---- values of one class

same_trans : (k l m : ℕ) → (k == l) ≡ true → (k == m) ≡ true → (l == m) ≡ true
same_trans k l m h g = subst (λ n. (n == m) ≡ true) (eqb-true k l h) g

same_back : (k l : ℕ) → (k == l) ≡ true → (l == k) ≡ true
same_back k l h = same_trans k l k h (nat_eq_equiv.refl k)

ordered_at : (k l : ℕ) → (k == l) ≡ true → is_ordered k ≡ true → is_ordered l ≡ true
ordered_at k l h g = subst (λ n. is_ordered n ≡ true) (eqb-true k l h) g

-- two values of the class of d can be compared
alike_by : (d a b : Data) → is_ordered (class d) ≡ true → (class d == class a) ≡ true → (class d == class b) ≡ true → alike a b ≡ true
alike_by d a b o h k = and_true _ _ (same_trans (class d) (class a) (class b) h k) (ordered_at (class d) (class a) h o)

-- ---- tests of all items

pass : (p q r : Data → Bool) → ((e : Data) → p e ≡ true → q e ≡ true → r e ≡ true) → (es : List Data) → list_all p es ≡ true → list_all q es ≡ true → list_all r es ≡ true
pass p q r f [] h k = refl
pass p q r f (e ∷ es) h k =
    let a = both (p e) (list_all p es) h in
    let b = both (q e) (list_all q es) k in
    and_true _ _ (f e a.0 b.0) (pass p q r f es a.1 b.1)

all_split : (p : Data → Bool) (xs ys : List Data) → list_all p (xs ++ ys) ≡ true → (list_all p xs ≡ true) × (list_all p ys ≡ true)
all_split p xs ys h = both _ _ (sym (list_all-append p xs ys) ∙ h)

all_join : (p : Data → Bool) (xs ys : List Data) → list_all p xs ≡ true → list_all p ys ≡ true → list_all p (xs ++ ys) ≡ true
all_join p xs ys h k = list_all-append p xs ys ∙ and_true _ _ h k

and_false : (a b : Bool) → b ≡ false → (a && b) ≡ false
and_false true b h = h
and_false false b h = refl

all_fails : (p : Data → Bool) (xs : List Data) (d : Data) (ys : List Data) → p d ≡ false → list_all p (xs ++ (d ∷ ys)) ≡ false
all_fails p xs d ys h = list_all-append p xs (d ∷ ys) ∙ and_false (list_all p xs) _ (ap (λ b. b && list_all p ys) h)

not_true : (b : Bool) → b ≡ false → not b ≡ true
not_true b h = ap not h

from_not : (b : Bool) → not b ≡ true → b ≡ false
from_not true h = absurd (cc)
from_not false h = refl

find_past : (p : Data → Bool) (xs : List Data) (d : Data) (ys : List Data) → list_all (λ e. not (p e)) xs ≡ true → p d ≡ true → find p (xs ++ (d ∷ ys)) ≡ Some d
find_past p [] d ys h k = rw k
find_past p (e ∷ es) d ys h k =
    let parts = both (not (p e)) (list_all (λ x. not (p x)) es) h in
    rw (from_not (p e) parts.0) (find_past p es d ys parts.1 k)

-- ---- the first of the values so far

-- d is the first of v and xs that none of them precedes
pub record Leads (end : Extreme) (d v : Data) (xs : List Data) : Type 0 where
  pub before : List Data
  pub after : List Data
  pub split : v ∷ xs ≡ before ++ (d ∷ after)
  pub beats : list_all (stands_before end d) before ≡ true
  pub unbeaten : list_all (λ e. not (stands_before end e d)) after ≡ true
  pub same : list_all (λ e. class d == class e) (v ∷ xs) ≡ true
  pub ordered : (w : Data) (ws : List Data) → xs ≡ w ∷ ws → is_ordered (class d) ≡ true

pub leads_first : (end : Extreme) (v : Data) → Leads end v v []
leads_first end v = record {
  before = [];
  after = [];
  split = refl;
  beats = refl;
  unbeaten = refl;
  same = and_true _ _ (nat_eq_equiv.refl (class v)) refl;
  ordered = λ w ws e. absurd (cc);
}

module _ (end : Extreme) (d v x : Data) (xs : List Data) (l : Leads end d v xs) where
  module _ (like : alike x d ≡ true) where
    near : ((class x == class d) ≡ true) × (is_ordered (class x) ≡ true)
    near = both (class x == class d) (is_ordered (class x)) like

    near_d : (class d == class x) ≡ true
    near_d = same_back (class x) (class d) near.0

    d_ordered : is_ordered (class d) ≡ true
    d_ordered = ordered_at (class x) (class d) near.0 near.1

    x_alike : (e : Data) → (class d == class e) ≡ true → alike x e ≡ true
    x_alike e h = alike_by d x e d_ordered near_d h

    same_in : (list_all (λ e. class d == class e) l.before ≡ true) × (list_all (λ e. class d == class e) (d ∷ l.after) ≡ true)
    same_in = all_split _ l.before (d ∷ l.after) (sym (ap (list_all (λ e. class d == class e)) l.split) ∙ l.same)

    -- x precedes d, and so precedes all
    module _ (lt : stands_before end x d ≡ true) where
      lt_d : is_lt (order end x d) ≡ true
      lt_d = sym (stands end x d like) ∙ lt

      past_before : (e : Data) → (class d == class e) ≡ true → stands_before end d e ≡ true → stands_before end x e ≡ true
      past_before e h k =
          let d_e = alike_by d d e d_ordered (nat_eq_equiv.refl (class d)) h in
          stands end x e (x_alike e h) ∙ lt_trans (order_total end) x d e lt_d (sym (stands end d e d_e) ∙ k)

      past_after : (e : Data) → (class d == class e) ≡ true → not (stands_before end e d) ≡ true → stands_before end x e ≡ true
      past_after e h k =
          let e_d = alike_by d e d d_ordered h (nat_eq_equiv.refl (class d)) in
          stands end x e (x_alike e h) ∙ lt_le (order_total end) x d e lt_d (sym (stands end e d e_d) ∙ from_not _ k)

      beats_all : list_all (stands_before end x) (v ∷ xs) ≡ true
      beats_all = ap (list_all (stands_before end x)) l.split ∙ all_join (stands_before end x) l.before (d ∷ l.after)
          (pass (λ e. class d == class e) (stands_before end d) (stands_before end x) past_before l.before same_in.0 l.beats)
          (and_true _ _ lt (pass (λ e. class d == class e) (λ e. not (stands_before end e d)) (stands_before end x) past_after l.after (both _ _ same_in.1).1 l.unbeaten))

      same_as_x : list_all (λ e. class x == class e) ((v ∷ xs) ++ (x ∷ [])) ≡ true
      same_as_x = all_join (λ e. class x == class e) (v ∷ xs) (x ∷ [])
          (pass (λ e. class d == class e) (λ e. class d == class e) (λ e. class x == class e) (λ e h k. same_trans (class d) (class x) (class e) near_d h) (v ∷ xs) l.same l.same)
          (and_true _ _ (nat_eq_equiv.refl (class x)) refl)

      leads_new : Leads end x v (xs ++ (x ∷ []))
      leads_new = record {
        before = v ∷ xs;
        after = [];
        split = refl;
        beats = beats_all;
        unbeaten = refl;
        same = same_as_x;
        ordered = λ w ws e. near.1;
      }

    leads_old : stands_before end x d ≡ false → Leads end d v (xs ++ (x ∷ []))
    leads_old ge = record {
      before = l.before;
      after = l.after ++ (x ∷ []);
      split = ap (λ ys. ys ++ (x ∷ [])) l.split ∙ append_assoc l.before (d ∷ l.after) (x ∷ []);
      beats = l.beats;
      unbeaten = all_join (λ e. not (stands_before end e d)) l.after (x ∷ []) l.unbeaten (and_true _ _ (not_true _ ge) refl);
      same = all_join (λ e. class d == class e) (v ∷ xs) (x ∷ []) l.same (and_true _ _ near_d refl);
      ordered = λ w ws e. d_ordered;
    }

  -- x can't be compared with d
  module _ (ys : List Data) (apart : comparison x d ≡ None) where
    none_with_x : list_all (λ b. is_some (comparison x b)) ((v ∷ xs) ++ (x ∷ ys)) ≡ false
    none_with_x =
        ap (list_all (λ b. is_some (comparison x b))) (ap (λ zs. zs ++ (x ∷ ys)) l.split ∙ append_assoc l.before (d ∷ l.after) (x ∷ ys))
        ∙ all_fails (λ b. is_some (comparison x b)) l.before d (l.after ++ (x ∷ ys)) (ap is_some apart)

    not_all : all_compare ((v ∷ xs) ++ (x ∷ ys)) ≡ false
    not_all = all_fails (λ a. list_all (λ b. is_some (comparison a b)) ((v ∷ xs) ++ (x ∷ ys))) (v ∷ xs) x ys none_with_x

none_first : (end : Extreme) (vs : List Data) → all_compare vs ≡ false → first_extreme end vs ≡ None
none_first end vs h = ap (λ b. cond b (find (is_extreme end vs) vs) None) h

-- ---- the loop's invariant

step_with : (end : Extreme) (d v x n : Data) (xs : List Data) (o : Ordering) (b : Bool) → Leads end d v xs → comparison x d ≡ Some o → goes_before end o ≡ b → n ≡ cond b x d → Leads end n v (xs ++ (x ∷ []))
step_with end d v x n xs o true l is h e =
    let lead : Leads end x v (xs ++ (x ∷ [])) = leads_new end d v x xs l (alike_some x d o is) (ap (is_some_and (goes_before end)) is ∙ h) in
    subst (λ m. Leads end m v (xs ++ (x ∷ []))) (sym e) lead
step_with end d v x n xs o false l is h e =
    let lead : Leads end d v (xs ++ (x ∷ [])) = leads_old end d v x xs l (alike_some x d o is) (ap (is_some_and (goes_before end)) is ∙ h) in
    subst (λ m. Leads end m v (xs ++ (x ∷ []))) (sym e) lead

step : (end : Extreme) (d v x n : Data) (xs : List Data) → Leads end d v xs → Some n ≡ better end d x → Leads end n v (xs ++ (x ∷ []))
step end d v x n xs l h = at (comparison x d) refl
  where
    at : (o : Option Ordering) → comparison x d ≡ o → Leads end n v (xs ++ (x ∷ []))
    at None k = let none : Some n ≡ None = h ∙ ap (option_map (λ o. cond (goes_before end o) x d)) k in absurd (cc)
    at (Some o) k =
        let some : Some n ≡ Some (cond (goes_before end o) x d) = h ∙ ap (option_map (λ p. cond (goes_before end p) x d)) k in
        step_with end d v x n xs o (goes_before end o) l k refl (cc)

no_order : (end : Extreme) (d x : Data) → None ≡ better end d x → comparison x d ≡ None
no_order end d x h = at (comparison x d) refl
  where
    at : (o : Option Ordering) → comparison x d ≡ o → comparison x d ≡ None
    at None k = k
    at (Some o) k = let none : None ≡ Some (cond (goes_before end o) x d) = h ∙ ap (option_map (λ p. cond (goes_before end p) x d)) k in absurd (cc)

stuck_at : (end : Extreme) (d v x : Data) (xs ys : List Data) → Leads end d v xs → comparison x d ≡ None → None ≡ least_or_greatest end v (xs ++ (x ∷ ys))
stuck_at end d v x [] ys l h = sym (none_first end (v ∷ x ∷ ys) (not_all end d v x [] l ys h))
stuck_at end d v x (w ∷ ws) ys l h = sym (none_first end ((v ∷ w ∷ ws) ++ (x ∷ ys)) (not_all end d v x (w ∷ ws) l ys h))

-- the same for a list's values up to one of them
taken : (xs : List Value) (i : ℕ) (x : Value) → i < length xs → x ≡ get_or xs i x → map view (take (i + 1) xs) ≡ map view (take i xs) ++ (view x ∷ [])
taken xs i x lt is = ap (map view) (take_more xs i x lt ∙ ap (λ y. take i xs ++ (y ∷ [])) (sym is)) ∙ map_push view (take i xs) x

pub stepped : (end : Extreme) (d v n : Data) (xs : List Value) (i : ℕ) (x : Value) → i < length xs → x ≡ get_or xs i x → Leads end d v (map view (take i xs)) → Some n ≡ better end d (view x) → Leads end n v (map view (take (i + 1) xs))
stepped end d v n xs i x lt is l h = subst (λ ys. Leads end n v ys) (sym (taken xs i x lt is)) (step end d v (view x) n (map view (take i xs)) l h)

around : (xs : List Value) (i : ℕ) (x : Value) → i < length xs → x ≡ get_or xs i x → map view xs ≡ map view (take i xs) ++ (view x ∷ map view (drop (i + 1) xs))
around xs i x lt is =
    ap (map view) (sym (take-append-drop (i + 1) xs)) ∙ map-append view (take (i + 1) xs) (drop (i + 1) xs)
    ∙ ap (λ ys. ys ++ map view (drop (i + 1) xs)) (taken xs i x lt is) ∙ append_assoc (map view (take i xs)) (view x ∷ []) (map view (drop (i + 1) xs))

pub stuck : (end : Extreme) (d v : Data) (xs : List Value) (i : ℕ) (x : Value) → i < length xs → x ≡ get_or xs i x → Leads end d v (map view (take i xs)) → None ≡ better end d (view x) → None ≡ least_or_greatest end v (map view xs)
stuck end d v xs i x lt is l h =
    stuck_at end d v (view x) (map view (take i xs)) (map view (drop (i + 1) xs)) l (no_order end d (view x) h)
    ∙ ap (least_or_greatest end v) (sym (around xs i x lt is))

single : (v d : Data) (before after : List Data) → v ∷ [] ≡ before ++ (d ∷ after) → v ≡ d
single v d [] after e = cc
single v d (b ∷ []) after e = absurd (cc)
single v d (b ∷ (c ∷ bs)) after e = absurd (cc)

module _ (end : Extreme) (d v w : Data) (ws : List Data) (l : Leads end d v (w ∷ ws)) where
  abbrev all : List Data
  all = v ∷ w ∷ ws

  is_in_order : is_ordered (class d) ≡ true
  is_in_order = l.ordered w ws refl

  all_some : all_compare all ≡ true
  all_some = pass (λ a. class d == class a) (λ a. class d == class a) (λ a. list_all (λ b. is_some (comparison a b)) all)
      (λ a h _. pass (λ b. class d == class b) (λ b. class d == class b) (λ b. is_some (comparison a b)) (λ b k _. ap is_some (compares_if a b true (alike_by d a b is_in_order h k))) all l.same l.same)
      all l.same l.same

  same_parts : (list_all (λ e. class d == class e) l.before ≡ true) × (list_all (λ e. class d == class e) (d ∷ l.after) ≡ true)
  same_parts = all_split _ l.before (d ∷ l.after) (sym (ap (list_all (λ e. class d == class e)) l.split) ∙ l.same)

  d_itself : alike d d ≡ true
  d_itself = alike_by d d d is_in_order (nat_eq_equiv.refl (class d)) (nat_eq_equiv.refl (class d))

  not_beaten : (e : Data) → (class d == class e) ≡ true → stands_before end d e ≡ true → not (stands_before end e d) ≡ true
  not_beaten e h k =
      let d_e = alike_by d d e is_in_order (nat_eq_equiv.refl (class d)) h in
      let e_d = alike_by d e d is_in_order h (nat_eq_equiv.refl (class d)) in
      not_true _ (stands end e d e_d ∙ lt_asym (order_total end) d e (sym (stands end d e d_e) ∙ k))

  d_first : is_extreme end all d ≡ true
  d_first = ap (list_all (λ e. not (stands_before end e d))) l.split ∙ all_join (λ e. not (stands_before end e d)) l.before (d ∷ l.after)
      (pass (λ e. class d == class e) (stands_before end d) (λ e. not (stands_before end e d)) not_beaten l.before same_parts.0 l.beats)
      (and_true _ _ (not_true _ (stands end d d d_itself ∙ lt_irrefl (order_total end) d)) l.unbeaten)

  beaten : (e : Data) → stands_before end d e ≡ true → not (is_extreme end all e) ≡ true
  beaten e h = not_true _ (ap (list_all (λ u. not (stands_before end u e))) l.split ∙ all_fails (λ u. not (stands_before end u e)) l.before d l.after (ap not h))

  found : find (is_extreme end all) all ≡ Some d
  found = ap (find (is_extreme end all)) l.split ∙ find_past (is_extreme end all) l.before d l.after
      (pass (stands_before end d) (stands_before end d) (λ e. not (is_extreme end all e)) (λ e h _. beaten e h) l.before l.beats l.beats) d_first

  chosen_some : Some d ≡ first_extreme end all
  chosen_some = sym found ∙ sym (ap (λ b. cond b (find (is_extreme end all) all) None) all_some)

pub leads_chosen : (end : Extreme) (d v : Data) (xs : List Data) → Leads end d v xs → Some d ≡ least_or_greatest end v xs
leads_chosen end d v [] l = ap Some (sym (single v d l.before l.after l.split))
leads_chosen end d v (w ∷ ws) l = chosen_some end d v w ws l

pub ended : (end : Extreme) (d v : Data) (xs : List Value) (i : ℕ) → length xs ≤ i → Leads end d v (map view (take i xs)) → Some d ≡ least_or_greatest end v (map view xs)
ended end d v xs i past l = leads_chosen end d v (map view (take i xs)) l ∙ ap (λ ys. least_or_greatest end v (map view ys)) (take_all i xs past)

-- ---- the arguments

pub listed : (v : Data) (xs : List Value) (ds : Items) → items_view xs ≡ ds → Some ds ≡ items_in v → Some (map view xs) ≡ option_map items_list (items_in v)
listed v xs ds e h = ap Some (sym (items_list-items_of (map view xs))) ∙ ap (λ es. Some (items_list es)) e ∙ ap (option_map items_list) h

pub among_more : (v : Data) (xs : List Value) → 0 < length xs → values_among (v ∷ map view xs) ≡ v ∷ map view xs
among_more v [] h = absurd (omega arith)
among_more v (x ∷ xs) h = refl
