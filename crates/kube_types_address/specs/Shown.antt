-- Trusted by the clauses of policies.
-- The view of an address in contracts.
use Rattle.std.specs.Prelude.{List, ℕ, Option, Result, Ok, Err, option_map}
use Rattle.std.specs.Borrow.{Bor}
use Rattle.std.specs.Net.Addr.{ipv4_octets, ipv6_segments}
use Rattle.std.specs.declared.net.ip_addr.IpAddr.{IpAddr}
use Rattle.std.specs.declared.net.ip_addr.IpAddr.TheVariants as Ip
use Rattle.kube_types_address.specs.Addresses.{Address, four, six}
use Rattle.kube_types_address.specs.declared.ip.KubeIP.{KubeIP}

-- the octets or groups of an address of the standard library
abbrev pub parts : IpAddr → Address
parts (Ip.V4 a) = four (ipv4_octets a)
parts (Ip.V6 a) = six (ipv6_segments a)

-- the address of a `KubeIP`
abbrev pub address : KubeIP → Address
address ip = parts ip.address

-- the view of a result: the address, or the error's text
abbrev pub ip_answer : Result KubeIP (Bor (List ℕ)) → Result Address (List ℕ)
ip_answer (Ok ip) = Ok (address ip)
ip_answer (Err text) = Err text.now

-- the view of a text split in two
abbrev pub part_texts : Option (Bor (List ℕ) × Bor (List ℕ)) → Option (List ℕ × List ℕ)
part_texts o = option_map (λ p. (p.0.now, p.1.now)) o
