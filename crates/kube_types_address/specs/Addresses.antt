-- Trusted by the headline.
-- IP addresses and their numbers.
-- Source: RFC 791 for the four octets of an IPv4 address, RFC 4291 for the eight groups of an IPv6
-- address and for the IPv4-mapped ones (section 2.5.5.2).
use Rattle.std.specs.Prelude.{◌≡◌, ℕ, zero, suc, ◌+◌, ◌*◌, ◌/◌, ◌%◌, ◌^◌, ◌<◌, Bool, false, List, [], ◌∷◌, ◌++◌, length, take, bytes_eq, slice_index}

-- four octets or eight groups of 16 bits, most significant first
pub data Address : Type 0 where
  four : List ℕ → Address
  six : List ℕ → Address

-- an address has four numbers below 256, or eight below 65536
abbrev pub IsAddress : Address → Type 0
IsAddress (four octets) = (length octets ≡ 4) × ((k : ℕ) → slice_index octets k < 2 ^ 8)
IsAddress (six groups) = (length groups ≡ 8) × ((k : ℕ) → slice_index groups k < 2 ^ 16)

-- 4 or 6
abbrev pub family : Address → ℕ
family (four octets) = 4
family (six groups) = 6

-- the number of bits in the addresses of a family
abbrev pub width : Address → ℕ
width (four octets) = 32
width (six groups) = 128

-- the number n, continued with these digits in the base, most significant first
unfoldable pub value_after : ℕ → ℕ → List ℕ → ℕ
value_after base n [] = n
value_after base n (d ∷ ds) = value_after base (n * base + d) ds

-- the address as one number of 32 or 128 bits
abbrev pub number : Address → ℕ
number (four octets) = value_after 256 0 octets
number (six groups) = value_after 65536 0 groups

-- the lowest `count` digits of n in the base, most significant first
unfoldable pub lowest_digits : ℕ → ℕ → ℕ → List ℕ
lowest_digits base zero n = []
lowest_digits base (suc count) n = lowest_digits base count (n / base) ++ n % base ∷ []

-- the address of the same family with this number
abbrev pub with_number : Address → ℕ → Address
with_number (four octets) n = four (lowest_digits 256 4 n)
with_number (six groups) n = six (lowest_digits 65536 8 n)

-- the address is in ::ffff:0:0/96
abbrev pub is_mapped : Address → Bool
is_mapped (four octets) = false
is_mapped (six groups) = bytes_eq (take 6 groups) (0 ∷ 0 ∷ 0 ∷ 0 ∷ 0 ∷ 0xffff ∷ [])
