-- Scaffolding: only proofs and private clauses cite it.
-- The order of quantities is total, and only equal quantities compare as equal.
use Rattle.std.specs.Prelude.{◌≡◌, ◌&&◌, true, ℤ, refl}
use Rattle.std.proofs.Common.{sym, ◌∙◌, ap}
use Rattle.std.specs.Ordering.{int_cmp, int_eq, on, as_partial_cmp, eq_by_cmp, is_eq}
use Rattle.std.specs.declared.cmp.Ordering.TheVariants.{Equal}
use Rattle.std.specs.Cmp.{IsTotalOrder, IsPartialOrder, Agrees, both_ways, Equal-is, po, first_so, second_so}
use Rattle.std.specs.FinMap.{int_cmp-IsAntisymmetric}
use Rattle.std.proofs.lemmas.Cmp.{on_total, tied_itself, int_cmp_total, int_eq_equiv}
use Rattle.kube_types.specs.Quantity.Decimal.{Decimal, aligned_mantissa, decimal_cmp, SameNumber}
use Rattle.kube_types.specs.Quantity.NormalLaws.{normal_unique}
use Rattle.kube_types.specs.Quantity.Scales.{decimal_cmp_total}
use Rattle.kube_types.specs.Quantity.Shown.{number}
use Rattle.kube_types.specs.declared.quantities.quantity.KubeQuantity.{KubeQuantity}

int_eq_same : (a b : ℤ) → int_eq a b ≡ true → a ≡ b
int_eq_same a b e = int_cmp-IsAntisymmetric a b ((Equal-is (int_cmp a b)).0 e)

same_int_eq : (a b : ℤ) → a ≡ b → int_eq a b ≡ true
same_int_eq a b e = ap (int_eq a) (sym e) ∙ int_eq_equiv.refl a

-- numbers compare as equal exactly if they are the same number
pub tied_same : (x y : Decimal) → decimal_cmp x y ≡ Equal → SameNumber x y
tied_same x y e = int_cmp-IsAntisymmetric (aligned_mantissa x y) (aligned_mantissa y x) e

pub same_tied : (x y : Decimal) → SameNumber x y → decimal_cmp x y ≡ Equal
same_tied x y e =
    ap (int_cmp (aligned_mantissa x y)) (sym e) ∙ tied_itself int_cmp_total (aligned_mantissa x y)

pub quantity_cmp_total : IsTotalOrder (on number decimal_cmp)
quantity_cmp_total = on_total number decimal_cmp_total

pub quantity_cmp_agrees : Agrees (as_partial_cmp (on number decimal_cmp)) (on number decimal_cmp)
quantity_cmp_agrees = λ x y. refl

-- the fields of two quantities are equal exactly if their numbers compare as equal
pub quantity_cmp_matches_eq : (x y : KubeQuantity)
    → (int_eq x.mantissa y.mantissa && int_eq x.scale y.scale) ≡ eq_by_cmp (on number decimal_cmp) x y
quantity_cmp_matches_eq x y =
    both_ways (int_eq x.mantissa y.mantissa && int_eq x.scale y.scale) (eq_by_cmp (on number decimal_cmp) x y)
    (λ e.
    let m : x.mantissa ≡ y.mantissa =
    int_eq_same x.mantissa y.mantissa (first_so (int_eq x.mantissa y.mantissa) (int_eq x.scale y.scale) e) in
    let s : x.scale ≡ y.scale =
    int_eq_same x.scale y.scale (second_so (int_eq x.mantissa y.mantissa) (int_eq x.scale y.scale) e) in
    let one : number y ≡ number x = λ i. record { mantissa = sym m i; scale = sym s i } in
    ap (λ d. is_eq (decimal_cmp (number x) d)) one
    ∙ (Equal-is (decimal_cmp (number x) (number x))).1 (tied_itself decimal_cmp_total (number x)))
    (λ e.
    let same = normal_unique (number x) (number y) x.normal y.normal
    (tied_same (number x) (number y) ((Equal-is (decimal_cmp (number x) (number y))).0 e)) in
    λ i. same_int_eq x.mantissa y.mantissa same.0 i && same_int_eq x.scale y.scale same.1 i)

pub quantity_partial_order : IsPartialOrder
    (λ (x y : KubeQuantity). int_eq x.mantissa y.mantissa && int_eq x.scale y.scale)
    (as_partial_cmp (on number decimal_cmp))
quantity_partial_order = po quantity_cmp_total quantity_cmp_matches_eq
