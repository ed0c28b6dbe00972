-- Trusted by the headline.
-- CIDRs as sets of addresses.
-- Source: RFC 4632, section 3.1, for IPv4 prefixes, and RFC 4291, section 2.3, for IPv6 prefixes.
use Rattle.std.specs.Prelude.{ℕ, ◌-◌, ◌*◌, ◌/◌, ◌^◌, ◌≤◌, Bool, ◌&&◌, ◌==◌, nat_le}
use Rattle.kube_types_address.specs.Addresses.{Address, IsAddress, family, width, number, with_number}

-- an address, and the number of first bits that all addresses of the network share with it
pub record Network : Type 0 where
  pub ip : Address
  pub prefix : ℕ

-- the prefix is no longer than the address
abbrev pub IsNetwork : Network → Type 0
IsNetwork c = IsAddress c.ip × (c.prefix ≤ width c.ip)

-- the first `count` bits of an address, as a number
abbrev pub first_bits : ℕ → Address → ℕ
first_bits count a = number a / 2 ^ (width a - count)

-- the address is in the set: it has the same family and the same prefix bits
abbrev pub holds : Network → Address → Bool
holds c a = (family c.ip == family a) && (first_bits c.prefix c.ip == first_bits c.prefix a)

-- the inner set is contained in the outer one
abbrev pub encloses : Network → Network → Bool
encloses outer inner = holds outer inner.ip && nat_le outer.prefix inner.prefix

-- the first address of the set, with the same prefix: the bits after the prefix are 0
abbrev pub masked_network : Network → Network
masked_network c = record {
  ip = with_number c.ip (first_bits c.prefix c.ip * 2 ^ (width c.ip - c.prefix));
  prefix = c.prefix;
}
