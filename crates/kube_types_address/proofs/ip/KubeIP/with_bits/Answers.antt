use Rattle.std.proofs.Common.{sym, ap, ◌∙◌}
use Rattle.kube_types_address.proofs.Numbers.{ipv4_of_number, ipv6_of_number}
use Rattle.kube_types_address.specs.Addresses.{four, six, with_number}
use Rattle.kube_types_address.specs.Shown.{parts}
use Rattle.kube_types_address.proofs.ip.KubeIP.with_bits.Goals as goal

pub returns-in-V4 : goal.returns-in-V4
returns-in-V4 c = ap four (ipv4_of_number c.from_bits.result c.args.bits c.from_bits.ensures) ∙ sym (ap (λ a. with_number (parts a) c.args.bits) c.in-V4.is)

pub returns-in-V6 : goal.returns-in-V6
returns-in-V6 c = ap six (ipv6_of_number c.from_bits-in-V6.result c.args.bits c.from_bits-in-V6.ensures) ∙ sym (ap (λ a. with_number (parts a) c.args.bits) c.in-V6.is)
