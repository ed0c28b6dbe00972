use Rattle.std.proofs.Common.{arith}
use Rattle.kube_types_address.proofs.cidr.KubeCIDR.parse.Goals as goal

pub invariant_of-result : goal.invariant_of-result
invariant_of-result c = record { within = omega (arith, c.width.ensures, c.in_ok-prefix.ensures.within) }
