-- Equality of values of one kind.
use Rattle.std.proofs.Common.{◌≡◌, ◌↔◌, ◌&&◌, ◌==◌, ℕ, ℤ, pos, [], ◌∷◌, Bool, true, false, Some, refl, sym, ap, ◌∙◌, rules, arith}
use Rattle.std.proofs.lemmas.Bool.{eqb-true, eq-eqb, false≢true}
use Rattle.std.proofs.lemmas.Cmp.{eq_by_cmp_equiv}
use Rattle.std.proofs.lemmas.Int.{ints}
use Rattle.std.proofs.lemmas.Grind.{common_steps}
use Rattle.std.specs.Cmp.{IsEquivalence, both_ways, Equal-is, int_eq_equiv, first_so, second_so}
use Rattle.std.specs.Cmp.Lexicographic.{pointwise, nat_list_eq_equiv, same_text}
use Rattle.std.specs.FinMap.{int_cmp-IsAntisymmetric}
use Rattle.std.specs.Ordering.{int_cmp, int_eq, eq_by_cmp}
use Rattle.std.specs.Prelude.{nat_eq}
use denote.Enum.Bare.{sameb, same_true, true_same}
use mathlib.Core.Bool.{beq}
use Rattle.kube_types.specs.Addresses.{Address, four, six}
use Rattle.kube_types.specs.Prefixes.{Network}
use Rattle.kube_types_formats.proofs.KindLemmas.{names_apart}
use Rattle.kube_types.specs.Formats.{name_of}
use Rattle.kube_types_formats.specs.contracts.kind.FormatKind.{the_type}
use Rattle.kube_types.specs.FormatKind.{FormatKind}
use Rattle.kube_types.proofs.Quantity.Forms.{normal_form-normal, normal_form-same}
use Rattle.kube_types.specs.Quantity.Decimal.{Decimal, SameNumber, decimal_cmp}
use Rattle.kube_types.specs.Quantity.Normal.{normal_form}
use Rattle.kube_types.specs.Quantity.NormalLaws.{normal_unique}
use Rattle.kube_types.specs.Quantity.OrderLaws.{tied_same, same_tied}
use Rattle.kube_types.specs.Quantity.Scales.{decimal_cmp_total}
use Rattle.kube_types.specs.Quantity.Shown.{number}
use Rattle.kube_types.specs.declared.quantities.quantity.KubeQuantity.{KubeQuantity}
use Rattle.kube_types.specs.Version.Order.{same_parts}
use Rattle.kube_types.specs.Version.Shown.{Parts}
use Rattle.kube_types.specs.Url.Equality.{same_url}
use Rattle.kube_types.specs.Url.Shown.{Shown}
use Rattle.cel_value.specs.Data.{Data, map_of, ip, cidr, quantity, semver, url, format, Entries}
use Rattle.cel_value.specs.Parts.{entries_in, quantity_in, semver_in, url_in, format_in}
use Rattle.cel_value.specs.Same.{same, same_shapes, entry_shapes, bool_number, amount}
use Rattle.cel_value.specs.SameLaws.{same-equiv}

and_true_true : (b : _) → b && (true && true) ≡ b
and_true_true b = search rules

pub same_maps : (xs : Entries) (b : Data) (ys : Entries) → Some ys ≡ entries_in b → same (map_of xs) b ≡ same_shapes (entry_shapes xs) (entry_shapes ys)
same_maps xs (map_of es) ys h = grind (arith, common_steps, and_true_true)
same_maps xs _ ys h = grind arith

-- what `==` compares of two quantities
abbrev pub same_fields : KubeQuantity → KubeQuantity → Bool
same_fields x y = int_eq x.mantissa y.mantissa && int_eq x.scale y.scale

-- a quantity is stored in normal form
amount_held : (x : KubeQuantity) → amount (number x) ≡ x.mantissa ∷ x.scale ∷ []
amount_held x =
    let one = normal_unique (normal_form (number x)) (number x) (normal_form-normal (number x)) x.normal (normal_form-same (number x)) in
    λ i. one.0 i ∷ one.1 i ∷ []

two_trues : (a b : Bool) → ((a && (b && true)) && true) ≡ (a && b)
two_trues false b = refl
two_trues true false = refl
two_trues true true = refl

pub same_quantities : (x : KubeQuantity) (b : Data) (y : KubeQuantity) → Some (number y) ≡ quantity_in b → same (quantity (number x)) b ≡ same_fields x y
same_quantities x (quantity q) y h =
    let held : q ≡ number y = cc in
    (λ i. (pointwise int_eq (amount_held x i) ((ap amount held ∙ amount_held y) i)) && true) ∙ two_trues (int_eq x.mantissa y.mantissa) (int_eq x.scale y.scale)
same_quantities x _ y h = grind arith

pos_eq : (m n : ℕ) → int_eq (pos m) (pos n) ≡ (m == n)
pos_eq m n = both_ways (int_eq (pos m) (pos n)) (m == n)
    (λ e.
    let tied : pos m ≡ pos n = int_cmp-IsAntisymmetric (pos m) (pos n) ((Equal-is (int_cmp (pos m) (pos n))).0 e) in
    eq-eqb m n (omega (arith, ints, tied)))
    (λ e. ap (λ k. int_eq (pos m) (pos k)) (sym (eqb-true m n e)) ∙ int_eq_equiv.refl (pos m))

five_tests : (a b c d e : Bool) → ((((a && (b && (c && true))) && d) && (e && true)) && true) ≡ (a && (b && (c && (d && e))))
five_tests false b c d e = refl
five_tests true false c d e = refl
five_tests true true false d e = refl
five_tests true true true false e = refl
five_tests true true true true false = refl
five_tests true true true true true = refl

pub same_versions : (v : Parts) (b : Data) (w : Parts) → Some w ≡ semver_in b → same (semver v) b ≡ same_parts v w
same_versions v (semver u) w h =
    let held : u ≡ w = cc in
    ap (λ p. same (semver v) (semver p)) held ∙ five_tests (int_eq (pos v.0) (pos w.0)) (int_eq (pos v.1) (pos w.1)) (int_eq (pos v.2) (pos w.2)) (pointwise nat_eq v.3 w.3) (pointwise nat_eq v.4 w.4)
    ∙ (λ i. pos_eq v.0 w.0 i && (pos_eq v.1 w.1 i && (pos_eq v.2 w.2 i && (pointwise nat_eq v.3 w.3 && pointwise nat_eq v.4 w.4))))
same_versions v _ w h = grind arith

path_tests : (x y s : Bool) → ((int_eq (bool_number x) (bool_number y) && true) && s) ≡ (s && beq x y)
path_tests false false false = refl
path_tests false false true = refl
path_tests false true false = refl
path_tests false true true = refl
path_tests true false false = refl
path_tests true false true = refl
path_tests true true false = refl
path_tests true true true = refl

pub same_urls : (u : Shown) (b : Data) (w : Shown) → Some w ≡ url_in b → same (url u) b ≡ same_url u w
same_urls u (url v) w h =
    let held : v ≡ w = cc in
    ap (λ p. same (url u) (url p)) held ∙ path_tests u.is_path w.is_path (pointwise nat_eq u.text w.text)
same_urls u _ w h = grind arith

-- formats differ exactly if their names do
pub same_names : (f g : FormatKind) → pointwise nat_eq (name_of f) (name_of g) ≡ sameb the_type f g
same_names f g = both_ways (pointwise nat_eq (name_of f) (name_of g)) (sameb the_type f g)
    (λ e. true_same the_type f g (names_apart f g (same_text (name_of f) (name_of g) (sym e))))
    (λ e. ap (λ k. pointwise nat_eq (name_of f) (name_of k)) (sym (same_true the_type (search rules) f g e)) ∙ nat_list_eq_equiv.refl (name_of f))

pub same_formats : (f : FormatKind) (b : Data) (g : FormatKind) → Some g ≡ format_in b → same (format f) b ≡ sameb the_type f g
same_formats f (format k) g h =
    let held : k ≡ g = cc in
    ap (λ p. same (format f) (format p)) held ∙ same_names f g
same_formats f _ g h = grind arith

same_int : (m n : ℤ) → int_eq m n ≡ true → m ≡ n
same_int m n e = int_cmp-IsAntisymmetric m n ((Equal-is (int_cmp m n)).0 e)

equal_ints : (m n : ℤ) → m ≡ n → int_eq m n ≡ true
equal_ints m n e = ap (int_eq m) (sym e) ∙ int_eq_equiv.refl m

numbers : IsEquivalence (eq_by_cmp decimal_cmp)
numbers = eq_by_cmp_equiv decimal_cmp_total

tied : (x y : Decimal) → SameNumber x y → eq_by_cmp decimal_cmp x y ≡ true
tied x y h = (Equal-is (decimal_cmp x y)).1 (same_tied x y h)

-- normal forms are equal exactly if the numbers are
forms_tie : (x y : Decimal) → eq_by_cmp decimal_cmp (normal_form x) (normal_form y) ≡ eq_by_cmp decimal_cmp x y
forms_tie x y =
    numbers.congr (normal_form x) x (normal_form y) (tied (normal_form x) x (normal_form-same x))
    ∙ numbers.symm x (normal_form y)
    ∙ numbers.congr (normal_form y) y x (tied (normal_form y) y (normal_form-same y))
    ∙ numbers.symm y x

pub quantities_by_number : (x y : Decimal) → (same (quantity x) (quantity y) ≡ true) ↔ SameNumber x y
quantities_by_number x y =
    let p = normal_form x in
    let q = normal_form y in
    let tests : same (quantity x) (quantity y) ≡ (int_eq p.mantissa q.mantissa && int_eq p.scale q.scale) = two_trues (int_eq p.mantissa q.mantissa) (int_eq p.scale q.scale) in (
      (λ e.
          let both = sym tests ∙ e in
          let m = same_int p.mantissa q.mantissa (first_so (int_eq p.mantissa q.mantissa) (int_eq p.scale q.scale) both) in
          let s = same_int p.scale q.scale (second_so (int_eq p.mantissa q.mantissa) (int_eq p.scale q.scale) both) in
          let one : q ≡ p = λ i. record { mantissa = sym m i; scale = sym s i } in
          tied_same x y ((Equal-is (decimal_cmp x y)).0 (sym (forms_tie x y) ∙ ap (eq_by_cmp decimal_cmp p) one ∙ numbers.refl p))),
      (λ h.
          let form = tied_same p q ((Equal-is (decimal_cmp p q)).0 (forms_tie x y ∙ tied x y h)) in
          let one = normal_unique p q (normal_form-normal x) (normal_form-normal y) form in
          tests ∙ (λ i. equal_ints p.mantissa q.mantissa one.0 i && equal_ints p.scale q.scale one.1 i)),
    )

same_address : (a b : Address) → same (ip a) (ip b) ≡ true → a ≡ b
same_address (four s) (four t) e = ap four (same_text s t (sym e))
same_address (four s) (six t) e = absurd (false≢true e)
same_address (six s) (four t) e = absurd (false≢true e)
same_address (six s) (six t) e = ap six (same_text s t (sym e))

pub addresses_by_parts : (a b : Address) → (same (ip a) (ip b) ≡ true) ↔ (a ≡ b)
addresses_by_parts a b = (same_address a b, (λ e. ap (λ x. same (ip a) (ip x)) (sym e) ∙ same-equiv.refl (ip a)))

then_false : (b : Bool) → (b && false) ≡ false
then_false true = refl
then_false false = refl

one_test : (b s : Bool) → ((b && true) && s) ≡ (b && s)
one_test true s = refl
one_test false s = refl

cidr_tests : (a b : Address) (m n : ℕ) → same (cidr (record { ip = a; prefix = m })) (cidr (record { ip = b; prefix = n })) ≡ ((m == n) && same (ip a) (ip b))
cidr_tests (four s) (four t) m n = (λ i. (pos_eq m n i && true) && pointwise nat_eq s t) ∙ one_test (m == n) (pointwise nat_eq s t)
cidr_tests (four s) (six t) m n = sym (then_false (m == n))
cidr_tests (six s) (four t) m n = sym (then_false (m == n))
cidr_tests (six s) (six t) m n = (λ i. (pos_eq m n i && true) && pointwise nat_eq s t) ∙ one_test (m == n) (pointwise nat_eq s t)

pub cidrs_by_parts : (c d : Network) → (same (cidr c) (cidr d) ≡ true) ↔ (c ≡ d)
cidrs_by_parts c d = (
  (λ e.
      let both = sym (cidr_tests c.ip d.ip c.prefix d.prefix) ∙ e in
      let p = eqb-true c.prefix d.prefix (first_so (c.prefix == d.prefix) (same (ip c.ip) (ip d.ip)) both) in
      let a = same_address c.ip d.ip (second_so (c.prefix == d.prefix) (same (ip c.ip) (ip d.ip)) both) in
      λ i. record { ip = a i; prefix = p i }),
  (λ e. ap (λ x. same (cidr c) (cidr x)) (sym e) ∙ same-equiv.refl (cidr c)),
)

pub formats_by_kind : (f g : FormatKind) → (same (format f) (format g) ≡ true) ↔ (f ≡ g)
formats_by_kind f g = (
  (λ e. same_true the_type (search rules) f g (sym (same_names f g) ∙ e)),
  (λ e. ap (λ x. same (format f) (format x)) (sym e) ∙ same-equiv.refl (format f)),
)
