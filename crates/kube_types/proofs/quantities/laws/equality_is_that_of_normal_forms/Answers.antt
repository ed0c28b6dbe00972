use Rattle.std.proofs.Common.{refl, subst}
use Rattle.kube_types.specs.Quantity.Decimal.{Decimal, SameNumber}
use Rattle.kube_types.specs.Quantity.NormalLaws.{normal_unique}
use Rattle.kube_types.proofs.quantities.laws.equality_is_that_of_normal_forms.Goals as goal

pub returns : goal.returns
returns c = λ x y p q. (
  (λ same. let one = normal_unique x y p q same in λ i. record { mantissa = one.0 i; scale = one.1 i }),
  (λ e. let P : Decimal → Type 0 = λ d. SameNumber x d in subst P e refl),
)
