use Rattle.std.proofs.Common.{sym, ap, ◌∙◌, subst, bytes_eq}
use Rattle.std.specs.Net.Addr.{ipv4_octets}
use Rattle.kube_types_address.proofs.Matches.{dotted_is_printed}
use Rattle.kube_types_address.specs.Shown.{parts}
use Rattle.kube_types_address.specs.Texts.{IsTextOf, address_text}
use Rattle.kube_types_address.proofs.ip.KubeIP.is_printed.Goals as goal

pub returns-in-V4 : goal.returns-in-V4
returns-in-V4 c =
    let dotted = subst (λ a. IsTextOf c.args.text.now (parts a)) c.in-V4.is c.requires in
    sym (ap (λ a. bytes_eq c.args.text.now (address_text (parts a))) c.in-V4.is ∙ dotted_is_printed c.args.text.now (ipv4_octets c.in-V4.field-0) dotted)
