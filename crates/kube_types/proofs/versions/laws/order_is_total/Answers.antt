use Rattle.kube_types.specs.Version.OrderLaws.{parts_cmp_total}
use Rattle.kube_types.proofs.versions.laws.order_is_total.Goals as goal

pub returns : goal.returns
returns c = parts_cmp_total
