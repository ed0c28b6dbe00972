use Rattle.cel_value.proofs.Order.{order_goes_by_kind}
use Rattle.cel_value.proofs.laws.order_goes_by_kind.Goals as goal

pub returns : goal.returns
returns c = order_goes_by_kind
