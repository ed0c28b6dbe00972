use Rattle.std.proofs.Common.{arith}
use Rattle.kube_types.specs.Quantity.Scales.{power_pos}
use Rattle.kube_types.proofs.quantities.printing.split_at_point.Goals as goal

pub nonzero_div-result : goal.nonzero_div-result
nonzero_div-result c = omega (arith, c.in-Some.ensures.1, power_pos c.args.places)

pub nonzero_rem-result : goal.nonzero_rem-result
nonzero_rem-result c = omega (arith, c.in-Some.ensures.1, power_pos c.args.places)
