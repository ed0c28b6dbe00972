use Rattle.kube_types.proofs.Quantity.Wholes.{whole_from, whole_to}
use Rattle.kube_types.proofs.quantities.laws.integers_have_no_places.Goals as goal

pub returns : goal.returns
returns c = λ x z p. (whole_from x.mantissa x.scale z p, λ e. whole_to x.mantissa x.scale z e.0 e.1)
