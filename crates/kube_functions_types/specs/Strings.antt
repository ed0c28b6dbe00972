-- Trusted by the headline.
-- `string` of IP addresses and CIDRs (Kubernetes documentation,
-- "CEL in Kubernetes", IP address library, CIDR library, `string`).
use Rattle.std.specs.Prelude.{codes, Ok}
use Rattle.kube_types.specs.CidrTexts.{cidr_text}
use Rattle.kube_types.specs.Texts.{address_text}
use Rattle.cel_value.specs.Data.{Data, text, ip, cidr}
use Rattle.cel_semantics.specs.Outcome.{Outcome}
use Rattle.kube_functions_types.specs.Answers.{wrong_kind}

-- `string`: an address or a CIDR as text
abbrev pub string_of : Data → Outcome
string_of (ip a) = Ok (text (address_text a))
string_of (cidr c) = Ok (text (cidr_text c))
string_of _ = wrong_kind (codes "string")
