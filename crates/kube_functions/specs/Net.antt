-- Trusted by the headline.
-- The answers of the functions on IP addresses and CIDRs (Kubernetes
-- documentation, "CEL in Kubernetes", IP address library, CIDR library).
use Rattle.std.specs.Prelude.{ℕ, List, Option, Some, None, Err}
use Rattle.cel_value.specs.Data.{Data}
use Rattle.cel_value.specs.Faults.{no_overload}
use Rattle.cel_semantics.specs.Outcome.{Outcome}
use Rattle.kube_functions_types.specs.Cidr as cidrs
use Rattle.kube_functions_types.specs.Ip as addresses
use Rattle.kube_functions.specs.declared.libraries.net.NetFunction.{NetFunction}
use Rattle.kube_functions.specs.declared.libraries.net.NetFunction.TheVariants as function

-- the answer to a call with these operands, the receiver
-- first; `name` is the function's name in errors
abbrev pub answer : NetFunction → List ℕ → Option Data → Option Data → Outcome
answer function.Ip name (Some v) w = addresses.ip_of v
answer function.IsIp name (Some v) w = addresses.is_ip v
answer function.IsIpv4 name (Some v) w = addresses.is_ipv4 v
answer function.IsIpv6 name (Some v) w = addresses.is_ipv6 v
answer function.IsCanonical name (Some v) w = addresses.is_canonical v
answer function.Family name (Some v) w = addresses.family_of v
answer function.IsGlobalUnicast name (Some v) w = addresses.is_global_unicast v
answer function.IsLinkLocalMulticast name (Some v) w = addresses.is_link_local_multicast v
answer function.IsLinkLocalUnicast name (Some v) w = addresses.is_link_local_unicast v
answer function.IsLoopback name (Some v) w = addresses.is_loopback v
answer function.IsUnspecified name (Some v) w = addresses.is_unspecified v
answer function.Cidr name (Some v) w = cidrs.cidr_of v
answer function.IsCidr name (Some v) w = cidrs.is_cidr v
answer function.IsCidrV4 name (Some v) w = cidrs.is_cidr_v4 v
answer function.IsCidrV6 name (Some v) w = cidrs.is_cidr_v6 v
answer function.ContainsCidr name (Some v) (Some w) = cidrs.contains_cidr v w
answer function.ContainsIp name (Some v) (Some w) = cidrs.contains_ip v w
answer function.IpOfCidr name (Some v) w = cidrs.written_ip v
answer function.Masked name (Some v) w = cidrs.masked_cidr v
answer function.PrefixLength name (Some v) w = cidrs.prefix_length v
answer f name None w = Err (no_overload name)
answer f name v None = Err (no_overload name)
