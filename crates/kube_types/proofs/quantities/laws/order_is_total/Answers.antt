use Rattle.kube_types.specs.Quantity.Scales.{decimal_cmp_total}
use Rattle.kube_types.proofs.quantities.laws.order_is_total.Goals as goal

pub returns : goal.returns
returns c = decimal_cmp_total
