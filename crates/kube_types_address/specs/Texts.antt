-- Trusted by the headline.
-- The texts of addresses.
-- Source: RFC 4291, section 2.2, for the meaning of IPv6 texts; RFC
-- 3986, section 3.2.2, for the octets of IPv4 texts, which have no
-- leading zeros; RFC 5952, section 4, for the one text that is printed.
use Rattle.std.specs.Prelude.{◌≡◌, ℕ, Bool, true, false, ◌⊎◌, List, Option, Some, None, Result, Ok, Err, codes, option_map, bytes_eq, ◌==◌, if◌then◌else◌}
use Rattle.std.specs.List.{list_any}
use Rattle.std.specs.Net.Grammar.{IsDotted, IsColonHex}
use Rattle.std.specs.Net.Reader.{whole_value, read_ipv4, read_ipv6}
use Rattle.std.specs.Net.Text.{ipv4_text, hex_groups_text}
use Rattle.kube_types_address.specs.Addresses.{Address, four, six, is_mapped}

-- The text spells this address. IPv4: four decimal numbers below 256
-- without leading zeros, separated by dots. IPv6: eight groups of one to
-- four hex digits, separated by colons; `::` may stand once for one or more
-- zero groups, and the last two groups may be written as an IPv4 address.
abbrev pub IsTextOf : List ℕ → Address → Type 0
IsTextOf text (four octets) = IsDotted text octets
IsTextOf text (six groups) = IsColonHex text groups

-- The printed text: lower case, no leading zeros, and `::` for the
-- longest run of two or more zero groups, the first one on a tie.
abbrev pub address_text : Address → List ℕ
address_text (four octets) = ipv4_text octets
address_text (six groups) = hex_groups_text groups

-- the text contains a `%`
abbrev pub has_zone : List ℕ → Bool
has_zone text = list_any (λ c. c == 37) text

abbrev pub zone_error : List ℕ
zone_error = codes "IP address with zone is not allowed"

abbrev pub mapped_error : List ℕ
mapped_error = codes "IPv4-mapped IPv6 addresses are not allowed"

abbrev pub invalid_error : List ℕ
invalid_error = codes "invalid IP address"

-- The one right result of parsing a text: its address,
-- or the first error that applies of these three.
abbrev pub IsIpAnswer : List ℕ → Result Address (List ℕ) → Type 0
IsIpAnswer text (Ok a) = (has_zone text ≡ false) × IsTextOf text a × (is_mapped a ≡ false)
IsIpAnswer text (Err e) =
    ((has_zone text ≡ true) × (e ≡ zone_error))
    ⊎ (((has_zone text ≡ false) × ((a : Address) × IsTextOf text a × (is_mapped a ≡ true))
    × (e ≡ mapped_error))
    ⊎ ((has_zone text ≡ false) × ((a : Address) → ¬ (IsTextOf text a)) × (e ≡ invalid_error)))

-- the first option if it holds a value, or else the second
abbrev pub or_else : {A : Type 0} → Option A → Option A → Option A
or_else (Some x) other = Some x
or_else None other = other

-- the address that a text spells, or none if it doesn't spell one
unfoldable pub address_of : List ℕ → Option Address
address_of text =
    or_else (option_map four (whole_value (read_ipv4 text))) (option_map six (whole_value (read_ipv6 text)))

-- an address that isn't IPv4-mapped, or an error
abbrev pub unless_mapped : Option Address → Result Address (List ℕ)
unless_mapped None = Err invalid_error
unless_mapped (Some a) = if is_mapped a then Err mapped_error else Ok a

-- the result of parsing a text, as a function
unfoldable pub ip_of : List ℕ → Result Address (List ℕ)
ip_of text = if has_zone text then Err zone_error else unless_mapped (address_of text)

-- is a text the printed one of its address?
abbrev pub canonical_answer : List ℕ → Result Address (List ℕ) → Result Bool (List ℕ)
canonical_answer text (Ok a) = Ok (bytes_eq text (address_text a))
canonical_answer text (Err e) = Err e

-- the same for a text, or the reason why it has no address
abbrev pub canonical_of : List ℕ → Result Bool (List ℕ)
canonical_of text = canonical_answer text (ip_of text)
