-- A sorted list is in order as `isSorted` defines it, and equal values keep their order.
use Rattle.std.proofs.Common.{◌≡◌, List, [], ◌∷◌, Bool, true, false, not, cond, ◌&&◌, Option, Some, None, is_some, unwrap_or, Ok, refl, ap, sym, ◌∙◌, if◌then◌else◌, filter, find}
use Rattle.std.proofs.lemmas.Bool.{eqb-true}
use Rattle.std.specs.List.{list_all}
use Rattle.std.specs.List.Sorted.{ties}
use Rattle.std.specs.Option.{option_map_or}
use Rattle.std.specs.Ordering.{is_some_and, is_eq, is_lt, is_le, nat_cmp, ordering_reverse}
use Rattle.std.specs.Prelude.{◌==◌}
use Rattle.std.specs.declared.cmp.Ordering.{Ordering}
use Rattle.std.specs.declared.cmp.Ordering.TheVariants.{Less, Equal, Greater}
use Rattle.cel_value.proofs.Order.{equal_where_same}
use Rattle.cel_value.specs.Data.{Data, bool}
use Rattle.cel_value.specs.Same.{Shape, shape_of, same_shape, shape, class_of, is_ordered, has_order, comparison, same}
use Rattle.kube_functions_lists.specs.Orders.{ascend, ascending, class_number, comes_first, goes_before, have_order, neighbours, not_ascending, order_of, order_of_all, put_by, sorted_by}
use Rattle.kube_functions_lists.proofs.Classes.{class, itself, same_order, some_compared, stays, third, total}
use Rattle.kube_functions_lists.proofs.Stable.{both, pass}

-- ---- two values

turned : (x z : Data) → is_some (comparison x z) ≡ true → is_some (comparison z x) ≡ true
turned x z h = third x z x h (itself x z h)

reversed : (x z : Data) → order_of_all z x ≡ ordering_reverse (order_of_all x z)
reversed x z = same_order z x ∙ total.antisymm z x ∙ ap ordering_reverse (sym (same_order x z))

-- of two values that compare, if the second doesn't come first, the first does or they are equal
not_less : (x z : Data) → is_some (comparison x z) ≡ true → comes_first z x ≡ false → ascend x z ≡ true
not_less x z h never = by (comparison x z) (comparison z x) (nat_cmp (class_number x) (class_number z)) (nat_cmp (class_number z) (class_number x)) h (turned x z h) (reversed x z) never
  where
    by : (o p : Option Ordering) (m n : Ordering) → is_some o ≡ true → is_some p ≡ true → unwrap_or p n ≡ ordering_reverse (unwrap_or o m) → is_some_and is_lt p ≡ false → is_some_and is_le o ≡ true
    by None p m n h k r never = cc
    by (Some Less) p m n h k r never = refl
    by (Some Equal) p m n h k r never = refl
    by (Some Greater) None m n h k r never = cc
    by (Some Greater) (Some q) m n h k r never = let less : is_lt q ≡ true = ap is_lt r in cc

less_ascends : (o : Option Ordering) → is_some_and is_lt o ≡ true → is_some_and is_le o ≡ true
less_ascends None h = cc
less_ascends (Some Less) h = refl
less_ascends (Some Equal) h = cc
less_ascends (Some Greater) h = cc

-- ---- neighbours ascend

abbrev Rises : List Data → Type 0
Rises [] = Unit {0}
Rises (d ∷ []) = Unit {0}
Rises (d ∷ e ∷ ds) = (ascend d e ≡ true) × Rises (e ∷ ds)

put_from : (y x : Data) (zs : List Data) → ascend y x ≡ true → list_all (λ w. is_some (comparison x w)) zs ≡ true → Rises (y ∷ zs) → Rises (y ∷ put_by comes_first x zs)
put_from y x [] a h r = (a, tt)
put_from y x (z ∷ zs) a h r = by (comes_first z x) refl (λ near. put_from z x zs near (both (is_some (comparison x z)) _ h).1 r.1)
  where
    by : (b : Bool) → comes_first z x ≡ b → (ascend z x ≡ true → Rises (z ∷ put_by comes_first x zs)) → Rises (y ∷ (if b then z ∷ put_by comes_first x zs else x ∷ z ∷ zs))
    by true e rec = (r.0, rec (less_ascends (comparison z x) e))
    by false e rec = (a, (not_less x z (both (is_some (comparison x z)) _ h).0 e, r.1))

put_rises : (x : Data) (zs : List Data) → list_all (λ w. is_some (comparison x w)) zs ≡ true → Rises zs → Rises (put_by comes_first x zs)
put_rises x [] h r = tt
put_rises x (z ∷ zs) h r = by (comes_first z x) refl
  where
    by : (b : Bool) → comes_first z x ≡ b → Rises (if b then z ∷ put_by comes_first x zs else x ∷ z ∷ zs)
    by true e = put_from z x zs (less_ascends (comparison z x) e) (both (is_some (comparison x z)) _ h).1 r
    by false e = (not_less x z (both (is_some (comparison x z)) _ h).0 e, r)

all_put : (p : Data → Bool) (x : Data) (zs : List Data) → p x ≡ true → list_all p zs ≡ true → list_all p (put_by comes_first x zs) ≡ true
all_put p x [] e h = ap (λ b. b && true) e
all_put p x (z ∷ zs) e h = by (comes_first z x) (all_put p x zs e (both (p z) (list_all p zs) h).1)
  where
    by : (b : Bool) → list_all p (put_by comes_first x zs) ≡ true → list_all p (if b then z ∷ put_by comes_first x zs else x ∷ z ∷ zs) ≡ true
    by true rec = ap (λ b. b && list_all p (put_by comes_first x zs)) (both (p z) (list_all p zs) h).0 ∙ rec
    by false rec = ap (λ b. b && (p z && list_all p zs)) e ∙ h

all_sorted : (p : Data → Bool) (xs : List Data) → list_all p xs ≡ true → list_all p (sorted_by comes_first xs) ≡ true
all_sorted p [] h = refl
all_sorted p (x ∷ xs) h = all_put p x (sorted_by comes_first xs) (both (p x) (list_all p xs) h).0 (all_sorted p xs (both (p x) (list_all p xs) h).1)

-- all items compare with one value
sorted_rises : (d : Data) (xs : List Data) → list_all (λ w. is_some (comparison d w)) xs ≡ true → Rises (sorted_by comes_first xs)
sorted_rises d [] h = tt
sorted_rises d (x ∷ xs) h =
    let here = both (is_some (comparison d x)) (list_all (λ w. is_some (comparison d w)) xs) h in
    put_rises x (sorted_by comes_first xs)
    (pass (λ w. is_some (comparison d w)) (λ w. is_some (comparison x w)) (λ w k. third d x w here.0 k) (sorted_by comes_first xs) (all_sorted (λ w. is_some (comparison d w)) xs here.1))
    (sorted_rises d xs here.1)

none_found : (xs : List Data) → Rises xs → find (λ p. not (ascend p.0 p.1)) (neighbours xs) ≡ None
none_found [] r = refl
none_found (d ∷ []) r = refl
none_found (d ∷ e ∷ ds) r = ap (λ b. cond (not b) (Some (d, e)) (find (λ p. not (ascend p.0 p.1)) (neighbours (e ∷ ds)))) r.0 ∙ none_found (e ∷ ds) r.1

ascending_rises : (ds : List Data) → have_order ds ≡ true → Rises (ascending ds)
ascending_rises [] h = tt
ascending_rises (d ∷ []) h = tt
ascending_rises (d ∷ e ∷ ds) h = sorted_rises d (d ∷ e ∷ ds) (both (list_all (λ w. is_some (comparison d w)) (d ∷ e ∷ ds)) _ h).0

pub in_order : (ds : List Data) → have_order ds ≡ true → order_of (ascending ds) ≡ Ok (bool true)
in_order ds h = ap (λ o. option_map_or (λ p. not_ascending p.0 p.1) o (Ok (bool true))) (none_found (ascending ds) (ascending_rises ds h))

-- ---- equal values keep their order

same_class : (x y : Shape) → same_shape x y ≡ true → class_of x ≡ class_of y
same_class (shape_of k ns s p) (shape_of l ms t q) h = eqb-true k l (both (k == l) _ h).0

equal_order : (o : Option Ordering) (n : Ordering) → is_some_and is_eq o ≡ true → unwrap_or o n ≡ Equal
equal_order None n h = cc
equal_order (Some Less) n h = cc
equal_order (Some Equal) n h = refl
equal_order (Some Greater) n h = cc

no_order : (o : Option Ordering) (n : Ordering) → is_some o ≡ false → unwrap_or o n ≡ n
no_order None n h = refl
no_order (Some q) n h = cc

and_no : (a : Bool) → (a && false) ≡ false
and_no true = refl
and_no false = refl

tied_when_same : (v w : Data) → same v w ≡ true → order_of_all v w ≡ Equal
tied_when_same v w h = by (has_order v) refl
  where
    alike : has_order v ≡ has_order w
    alike = ap is_ordered (same_class (shape v) (shape w) h)

    by : (b : Bool) → has_order v ≡ b → order_of_all v w ≡ Equal
    by true e = equal_order (comparison v w) _ (equal_where_same v w ∙ (λ i. e i && ((sym alike ∙ e) i && h i)))
    by false e =
        no_order (comparison v w) _ (some_compared v w ∙ ap (λ b. (class v == class w) && b) e ∙ and_no (class v == class w))
        ∙ (λ i. nat_cmp (if e i then class v else 0) (if (sym alike ∙ e) i then class w else 0))

ties_when_same : (v w : Data) → same v w ≡ true → ties goes_before v w ≡ true
ties_when_same v w h =
    let tied = tied_when_same v w h in
    (λ i. not (is_lt (tied i)) && not (is_lt ((reversed v w ∙ ap ordering_reverse tied) i)))

within : {X : Type 0} (p q : X → Bool) → ((x : X) → p x ≡ true → q x ≡ true) → (xs : List X) → filter p (filter q xs) ≡ filter p xs
within p q h [] = refl
within p q h (x ∷ xs) = by (q x) (p x) refl refl (within p q h xs)
  where
    by : (b c : Bool) → q x ≡ b → p x ≡ c → filter p (filter q xs) ≡ filter p xs → filter p (filter q (x ∷ xs)) ≡ filter p (x ∷ xs)
    by true c e f rec = ap (λ b. filter p (cond b (x ∷ filter q xs) (filter q xs))) e ∙ ap (λ r. cond (p x) (x ∷ r) r) rec
    by false true e f rec = let never = h x f in cc
    by false false e f rec = ap (λ b. filter p (cond b (x ∷ filter q xs) (filter q xs))) e ∙ rec ∙ sym (ap (λ c. cond c (x ∷ filter p xs) (filter p xs)) f)

pub equals_stay : (ds : List Data) (v : Data) → have_order ds ≡ true → filter (same v) (ascending ds) ≡ filter (same v) ds
equals_stay ds v h =
    sym (within (same v) (ties goes_before v) (ties_when_same v) (ascending ds)) ∙ ap (filter (same v)) (stays ds h v) ∙ within (same v) (ties goes_before v) (ties_when_same v) ds
