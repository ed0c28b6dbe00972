-- Trusted by the headline.
-- The order of quantities and the order of versions (Kubernetes documentation, "CEL in Kubernetes",
-- quantity library, semver library; `Quantity` and `Semver` in `k8s.io/apiserver/pkg/cel/library`).
use Rattle.std.specs.Prelude.{ℕ, ℤ, pos, negsuc, List, codes, Option, None, Some}
use Rattle.std.specs.Ordering.{is_lt, is_gt}
use Rattle.std.specs.declared.cmp.Ordering.{Ordering}
use Rattle.std.specs.declared.cmp.Ordering.TheVariants.{Less, Equal, Greater}
use Rattle.kube_types.specs.Quantity.Decimal.{decimal_cmp}
use Rattle.kube_types.specs.Version.Order.{parts_cmp}
use Rattle.cel_value.specs.Data.{Data, bool, int, quantity, semver}
use Rattle.cel_semantics.specs.Outcome.{Outcome}
use Rattle.kube_functions_types.specs.Answers.{wrong_kind, value_or}

-- two quantities or two versions compared; none if the values are of other kinds
abbrev pub order_of : Data → Data → Option Ordering
order_of (quantity q) (quantity r) = Some (decimal_cmp q r)
order_of (semver v) (semver w) = Some (parts_cmp v w)
order_of _ _ = None

-- a value made of the order; `name` is the function's name in errors
abbrev pub order_outcome : List ℕ → (Ordering → Data) → Data → Data → Outcome
order_outcome name f v w = value_or (wrong_kind name) f (order_of v w)

-- `isGreaterThan`
abbrev pub is_greater_than : Data → Data → Outcome
is_greater_than = order_outcome (codes "isGreaterThan") (λ o. bool (is_gt o))

-- `isLessThan`
abbrev pub is_less_than : Data → Data → Outcome
is_less_than = order_outcome (codes "isLessThan") (λ o. bool (is_lt o))

abbrev pub number_of : Ordering → ℤ
number_of Less = negsuc 0
number_of Equal = pos 0
number_of Greater = pos 1

-- `compareTo`: -1, 0 or 1
abbrev pub compare_to : Data → Data → Outcome
compare_to = order_outcome (codes "compareTo") (λ o. int (number_of o))
