-- The order of values agrees with their equality.
use Rattle.std.proofs.Common.{◌≡◌, ◌==◌, ℕ, ◌&&◌, if◌then◌else◌, Bool, true, false, Some, None, Ordering, Less, Equal, Greater, refl, sym, ap, ◌∙◌, arith}
use Rattle.std.proofs.lemmas.Bool.{false≢true}
use Rattle.std.proofs.lemmas.Bool.Decides.{nat_tests}
use Rattle.std.specs.Ordering.{is_some_and, is_eq, int_cmp, nat_cmp, ordering_then}
use Rattle.std.specs.Cmp.Lexicographic.{slice_cmp, lists_ties, texts_ties}
use Rattle.cel_value.specs.Data.{Data, null, bool, int, uint, double, text, bytes, list, map_of, timestamp, duration, optional, ip, cidr, quantity, semver, url, format}
use Rattle.cel_value.specs.View.{kind_of}
use Rattle.cel_value.specs.Same.{Shape, shape_of, Shapes, no_shapes, shape, same_shape, same_shapes, same, class_of, is_ordered, is_ordered_kind, has_order, shape_order, comparison}

abbrev parts_of : Shape → Shapes
parts_of (shape_of k ns s p) = p

-- values that have an order have no parts
ordered_flat : (d : Data) → has_order d ≡ true → parts_of (shape d) ≡ no_shapes
ordered_flat null h = refl
ordered_flat (bool b) h = refl
ordered_flat (int n) h = refl
ordered_flat (uint n) h = refl
ordered_flat double h = refl
ordered_flat (text s) h = refl
ordered_flat (bytes s) h = refl
ordered_flat (list ds) h = absurd (false≢true h)
ordered_flat (map_of es) h = absurd (false≢true h)
ordered_flat (timestamp t o) h = refl
ordered_flat (duration n) h = refl
ordered_flat (optional ds) h = absurd (false≢true h)
ordered_flat (ip a) h = refl
ordered_flat (cidr c) h = refl
ordered_flat (quantity q) h = refl
ordered_flat (semver v) h = absurd (false≢true h)
ordered_flat (url u) h = refl
ordered_flat (format f) h = refl

is_eq-then : (o p : Ordering) → is_eq (ordering_then o p) ≡ (is_eq o && is_eq p)
is_eq-then Less p = refl
is_eq-then Equal p = refl
is_eq-then Greater p = refl

pick : (e o u s r : Bool) (x : Ordering) → (e ≡ true → o ≡ u) → (o ≡ true → e ≡ true → s ≡ true) → is_eq x ≡ r
    → is_some_and is_eq (if e && o then Some x else None) ≡ (o && (u && (e && (s && r))))
pick false false u s r x a b h = refl
pick false true false s r x a b h = refl
pick false true true s r x a b h = refl
pick true false u s r x a b h = refl
pick true true false s r x a b h = absurd (false≢true (sym (a refl)))
pick true true true false r x a b h = absurd (false≢true (b refl refl))
pick true true true true r x a b h = h

no_parts_same : (p q : Shapes) → p ≡ no_shapes → q ≡ no_shapes → same_shapes p q ≡ true
no_parts_same p q e f i = same_shapes (e i) (f i)

eq_numbers : (k l : ℕ) → (k == l) ≡ true → k ≡ l
eq_numbers k l h = grind (arith, nat_tests)

agree : (x y : Shape) → (is_ordered (class_of x) ≡ true → parts_of x ≡ no_shapes) → (is_ordered (class_of y) ≡ true → parts_of y ≡ no_shapes)
    → is_some_and is_eq (shape_order x y) ≡ (is_ordered (class_of x) && (is_ordered (class_of y) && same_shape x y))
agree (shape_of k ns s p) (shape_of l ms t q) f g =
    let tied = is_eq-then (slice_cmp int_cmp ns ms) (slice_cmp nat_cmp s t) ∙ (λ i. sym (lists_ties int_cmp (λ x y. refl) ns ms) i && sym (texts_ties s t) i) in
    pick (k == l) (is_ordered k) (is_ordered l) (same_shapes p q) _ _
    (λ e. ap is_ordered (eq_numbers k l e))
    (λ o e. no_parts_same p q (f o) (g (sym (ap is_ordered (eq_numbers k l e)) ∙ o)))
    tied

pub equal_where_same : (a b : Data) → is_some_and is_eq (comparison a b) ≡ (has_order a && (has_order b && same a b))
equal_where_same a b = agree (shape a) (shape b) (ordered_flat a) (ordered_flat b)

pub order_goes_by_kind : (d : Data) → has_order d ≡ is_ordered_kind (kind_of d)
order_goes_by_kind null = refl
order_goes_by_kind (bool b) = refl
order_goes_by_kind (int n) = refl
order_goes_by_kind (uint n) = refl
order_goes_by_kind double = refl
order_goes_by_kind (text s) = refl
order_goes_by_kind (bytes s) = refl
order_goes_by_kind (list ds) = refl
order_goes_by_kind (map_of es) = refl
order_goes_by_kind (timestamp t o) = refl
order_goes_by_kind (duration n) = refl
order_goes_by_kind (optional ds) = refl
order_goes_by_kind (ip a) = refl
order_goes_by_kind (cidr c) = refl
order_goes_by_kind (quantity q) = refl
order_goes_by_kind (semver v) = refl
order_goes_by_kind (url u) = refl
order_goes_by_kind (format f) = refl
