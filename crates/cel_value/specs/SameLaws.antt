-- Scaffolding: only proofs and private clauses cite it.
-- Equality of values is an equivalence.
use Rattle.std.specs.Prelude.{◌≡◌, ◌&&◌, ◌==◌, Bool, true, nat_eq, refl}
use Rattle.std.specs.Ordering.{eq_by_cmp, int_eq}
use Rattle.std.specs.Cmp.{IsEquivalence, first_so, second_so}
use Rattle.std.specs.Cmp.Lexicographic.{pointwise}
use Rattle.std.proofs.lemmas.Bool.{false≢true}
use Rattle.std.proofs.lemmas.Cmp.{on_equiv, lists_equiv, int_eq_equiv, nat_eq_equiv, nat_list_eq_equiv, eq_by_cmp_equiv}
use Rattle.cel_value.specs.Keys.{key_order, key_order_total}
use Rattle.cel_value.specs.Same.{Shape, shape_of, Shapes, no_shapes, shape_and, entry_and, shape, same_shape, same_shapes, same}
use Rattle.cel_value.specs.View.{view}
use Rattle.cel_value.specs.declared.value.Value.{Value}

both : (a b : Bool) → a ≡ true → b ≡ true → (a && b) ≡ true
both a b h k i = h i && k i

ints : IsEquivalence (pointwise int_eq)
ints = lists_equiv int_eq_equiv

keys : IsEquivalence (eq_by_cmp key_order)
keys = eq_by_cmp_equiv key_order_total

mutual
  same_shape-refl : (x : Shape) → same_shape x x ≡ true
  same_shape-refl (shape_of k ns s p) =
      λ i. nat_eq_equiv.refl k i && (same_shapes-refl p i && (ints.refl ns i && nat_list_eq_equiv.refl s i))

  same_shapes-refl : (p : Shapes) → same_shapes p p ≡ true
  same_shapes-refl no_shapes = refl
  same_shapes-refl (shape_and x p) = λ i. same_shape-refl x i && same_shapes-refl p i
  same_shapes-refl (entry_and k x p) = λ i. keys.refl k i && (same_shape-refl x i && same_shapes-refl p i)

mutual
  same_shape-symm : (x y : Shape) → same_shape x y ≡ same_shape y x
  same_shape-symm (shape_of k ns s p) (shape_of l ms t q) =
      λ i. nat_eq_equiv.symm k l i
      && (same_shapes-symm p q i && (ints.symm ns ms i && nat_list_eq_equiv.symm s t i))

  same_shapes-symm : (p q : Shapes) → same_shapes p q ≡ same_shapes q p
  same_shapes-symm no_shapes no_shapes = refl
  same_shapes-symm no_shapes (shape_and y q) = refl
  same_shapes-symm no_shapes (entry_and l y q) = refl
  same_shapes-symm (shape_and x p) no_shapes = refl
  same_shapes-symm (shape_and x p) (shape_and y q) = λ i. same_shape-symm x y i && same_shapes-symm p q i
  same_shapes-symm (shape_and x p) (entry_and l y q) = refl
  same_shapes-symm (entry_and k x p) no_shapes = refl
  same_shapes-symm (entry_and k x p) (shape_and y q) = refl
  same_shapes-symm (entry_and k x p) (entry_and l y q) =
      λ i. keys.symm k l i && (same_shape-symm x y i && same_shapes-symm p q i)

mutual
  same_shape-congr : (x y z : Shape) → same_shape x y ≡ true → same_shape x z ≡ same_shape y z
  same_shape-congr (shape_of k ns s p) (shape_of l ms t q) (shape_of m os u r) h =
      let rest = second_so (k == l) (same_shapes p q && (pointwise int_eq ns ms && pointwise nat_eq s t)) h in
      let inside = second_so (same_shapes p q) (pointwise int_eq ns ms && pointwise nat_eq s t) rest in
      let e1 = nat_eq_equiv.congr k l m
      (first_so (k == l) (same_shapes p q && (pointwise int_eq ns ms && pointwise nat_eq s t)) h) in
      let e2 = same_shapes-congr p q r
      (first_so (same_shapes p q) (pointwise int_eq ns ms && pointwise nat_eq s t) rest) in
      let e3 = ints.congr ns ms os (first_so (pointwise int_eq ns ms) (pointwise nat_eq s t) inside) in
      let e4 =
      nat_list_eq_equiv.congr s t u (second_so (pointwise int_eq ns ms) (pointwise nat_eq s t) inside) in
      λ i. e1 i && (e2 i && (e3 i && e4 i))

  same_shapes-congr : (p q r : Shapes) → same_shapes p q ≡ true → same_shapes p r ≡ same_shapes q r
  same_shapes-congr no_shapes no_shapes r h = refl
  same_shapes-congr no_shapes (shape_and y q) r h = absurd (false≢true h)
  same_shapes-congr no_shapes (entry_and l y q) r h = absurd (false≢true h)
  same_shapes-congr (shape_and x p) no_shapes r h = absurd (false≢true h)
  same_shapes-congr (shape_and x p) (entry_and l y q) r h = absurd (false≢true h)
  same_shapes-congr (entry_and k x p) no_shapes r h = absurd (false≢true h)
  same_shapes-congr (entry_and k x p) (shape_and y q) r h = absurd (false≢true h)
  same_shapes-congr (shape_and x p) (shape_and y q) no_shapes h = refl
  same_shapes-congr (shape_and x p) (shape_and y q) (entry_and m z r) h = refl
  same_shapes-congr (shape_and x p) (shape_and y q) (shape_and z r) h =
      let e1 = same_shape-congr x y z (first_so (same_shape x y) (same_shapes p q) h) in
      let e2 = same_shapes-congr p q r (second_so (same_shape x y) (same_shapes p q) h) in
      λ i. e1 i && e2 i
  same_shapes-congr (entry_and k x p) (entry_and l y q) no_shapes h = refl
  same_shapes-congr (entry_and k x p) (entry_and l y q) (shape_and z r) h = refl
  same_shapes-congr (entry_and k x p) (entry_and l y q) (entry_and m z r) h =
      let rest = second_so (eq_by_cmp key_order k l) (same_shape x y && same_shapes p q) h in
      let e0 = keys.congr k l m (first_so (eq_by_cmp key_order k l) (same_shape x y && same_shapes p q) h) in
      let e1 = same_shape-congr x y z (first_so (same_shape x y) (same_shapes p q) rest) in
      let e2 = same_shapes-congr p q r (second_so (same_shape x y) (same_shapes p q) rest) in
      λ i. e0 i && (e1 i && e2 i)

same_shape-equiv : IsEquivalence same_shape
same_shape-equiv = record { refl = same_shape-refl; symm = same_shape-symm; congr = same_shape-congr }

pub same-equiv : IsEquivalence same
same-equiv = on_equiv shape same_shape-equiv

pub value-equiv : IsEquivalence (λ (a b : Value). same (view a) (view b))
value-equiv = on_equiv view same-equiv
