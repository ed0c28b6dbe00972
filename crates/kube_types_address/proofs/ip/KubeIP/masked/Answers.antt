use Rattle.std.proofs.Common.{◌^◌, ◌≤◌, arith}
use Rattle.std.proofs.Math.Nat.{div-mul-le_self}
use Rattle.kube_types_address.proofs.Numbers.{masked_bits, below_whole, width_small}
use Rattle.kube_types_address.specs.Shown.{address}
use Rattle.kube_types_address.proofs.ip.KubeIP.masked.Goals as goal

pub with_bits-requires : goal.with_bits-requires
with_bits-requires c =
    let few : c.from-host_bits.result ≤ 128 = omega (arith, width_small (address c.args.self.now), c.width.ensures, c.from-host_bits.ensures) in
    let e = masked_bits c.bits.result c.unbounded_shr-first.result c.unbounded_shl.result c.from-host_bits.result (below_whole (address c.args.self.now) c.bits.result c.bits.ensures.below) few c.unbounded_shr-first.ensures c.unbounded_shl.ensures in
    let part = div-mul-le_self c.bits.result (2 ^ c.from-host_bits.result) in
    omega (arith, e, part, c.bits.ensures.below)
