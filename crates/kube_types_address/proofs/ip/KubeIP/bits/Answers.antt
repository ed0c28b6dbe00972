use Rattle.std.proofs.Common.{◌≡◌, length, rules, sym, ap, ◌∙◌, arith}
use Rattle.std.proofs.lemmas.Grind.{common_steps}
use Rattle.std.specs.Net.Addr.{ipv6_segments}
use Rattle.kube_types_address.proofs.Numbers.{octets_number, groups_number}
use Rattle.kube_types_address.specs.Addresses.{number, value_after}
use Rattle.kube_types_address.specs.Shown.{parts}
use Rattle.kube_types_address.proofs.ip.KubeIP.bits.Goals as goal

pub returns-in-V4-clause-value : goal.returns-in-V4-clause-value
returns-in-V4-clause-value c =
    let long : length c.octets.result ≡ 4 = first_of (search rules, grind (arith, common_steps)) in
    c.from.ensures ∙ c.from_be_bytes.ensures ∙ octets_number c.octets.result long ∙ ap (value_after 256 0) c.octets.ensures ∙ sym (ap (λ a. number (parts a)) c.in-V4.is)

pub returns-in-V6-clause-value : goal.returns-in-V6-clause-value
returns-in-V6-clause-value c =
    let long : length c.octets-in-V6.result ≡ 16 = first_of (search rules, grind (arith, common_steps)) in
    c.from_be_bytes-in-V6.ensures ∙ groups_number (ipv6_segments c.in-V6.ip) c.octets-in-V6.result c.octets-in-V6.ensures long ∙ sym (ap (λ a. number (parts a)) c.in-V6.is)
