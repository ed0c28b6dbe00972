-- Trusted by the clauses of policies.
-- The view of a quantity in contracts: its number.
use Rattle.kube_types.specs.Quantity.Decimal.{Decimal}
use Rattle.kube_types.specs.declared.quantities.quantity.KubeQuantity.{KubeQuantity}

-- the number of a quantity
abbrev pub number : KubeQuantity → Decimal
number q = record { mantissa = q.mantissa; scale = q.scale }
