-- Trusted by the headline.
-- The texts of CIDRs.
-- Source: RFC 4632, section 3.1, and RFC 4291, section 2.3: an address, a slash,
-- and the length of the prefix in decimal.
use Rattle.std.specs.Prelude.{◌≡◌, ℕ, ◌+◌, ◌≤◌, Bool, true, false, not, ◌&&◌, ◌||◌, ◌==◌, nat_lt, nat_le, ◌⊎◌, List, ◌∷◌, ◌++◌, length, take, drop, slice_index, Option, Some, None, Result, Ok, Err, option_map, codes, decimal, if◌then◌else◌}
use Rattle.std.specs.Char.{is_ascii_digit}
use Rattle.std.specs.List.{list_any, list_all, position}
use Rattle.std.specs.Str.Parse.{digits_value}
use Rattle.kube_types_address.specs.Addresses.{Address, width, is_mapped}
use Rattle.kube_types_address.specs.Prefixes.{Network}
use Rattle.kube_types_address.specs.Texts.{IsTextOf, address_of, address_text}

-- one or more decimal digits without a superfluous leading zero
unfoldable pub is_plain : List ℕ → Bool
is_plain digits = list_all is_ascii_digit digits
    && (nat_lt 0 (length digits) && (nat_lt (length digits) 2 || not (slice_index digits 0 == 48)))

-- the digits spell the number
abbrev pub IsLengthText : List ℕ → ℕ → Type 0
IsLengthText digits n = (is_plain digits ≡ true) × (digits_value 10 digits ≡ n)

-- the byte is a slash
abbrev pub is_slash : ℕ → Bool
is_slash c = c == 47

-- The text spells this CIDR: an address, the first slash, and the length of the prefix, which is at
-- most the number of bits in the address.
pub record IsCidrText (text : List ℕ) (c : Network) : Type 0 where
  pub front : List ℕ
  pub digits : List ℕ
  pub spelled : text ≡ front ++ 47 ∷ digits
  pub first_slash : list_any is_slash front ≡ false
  pub ip_text : IsTextOf front c.ip
  pub prefix_text : IsLengthText digits c.prefix
  pub within : c.prefix ≤ width c.ip

-- the printed text: the address as written, including host bits, and the length
abbrev pub cidr_text : Network → List ℕ
cidr_text c = address_text c.ip ++ 47 ∷ decimal c.prefix

abbrev pub mapped_cidr_error : List ℕ
mapped_cidr_error = codes "IPv4-mapped IPv6 in CIDR is not allowed"

abbrev pub invalid_cidr_error : List ℕ
invalid_cidr_error = codes "invalid CIDR"

-- The one right result of parsing a text: its CIDR, or the reason why it has none.
abbrev pub IsCidrAnswer : List ℕ → Result Network (List ℕ) → Type 0
IsCidrAnswer text (Ok c) = IsCidrText text c × (is_mapped c.ip ≡ false)
IsCidrAnswer text (Err e) =
    (((c : Network) × IsCidrText text c × (is_mapped c.ip ≡ true)) × (e ≡ mapped_cidr_error))
    ⊎ (((c : Network) → ¬ (IsCidrText text c)) × (e ≡ invalid_cidr_error))

-- the text before and the text after the first slash
unfoldable pub around_slash : List ℕ → Option (List ℕ × List ℕ)
around_slash text = option_map (λ i. (take i text, drop (i + 1) text)) (position is_slash text)

-- the number that plain digits spell, or none if it is above `most`
unfoldable pub length_of : ℕ → List ℕ → Option ℕ
length_of most digits =
    if is_plain digits && nat_le (digits_value 10 digits) most then Some (digits_value 10 digits) else None

-- the CIDR of an address and digits, or none if they don't make one
abbrev pub cidr_from : Option Address → List ℕ → Option Network
cidr_from None digits = None
cidr_from (Some a) digits = option_map (λ n. record { ip = a; prefix = n }) (length_of (width a) digits)

-- the CIDR of the two parts of a text
abbrev pub cidr_of_parts : Option (List ℕ × List ℕ) → Option Network
cidr_of_parts None = None
cidr_of_parts (Some p) = cidr_from (address_of p.0) p.1

-- the CIDR that a text spells, or none if it doesn't spell one
unfoldable pub written_cidr : List ℕ → Option Network
written_cidr text = cidr_of_parts (around_slash text)

-- a CIDR that isn't IPv4-mapped, or an error
abbrev pub unmapped_cidr : Option Network → Result Network (List ℕ)
unmapped_cidr None = Err invalid_cidr_error
unmapped_cidr (Some c) = if is_mapped c.ip then Err mapped_cidr_error else Ok c

-- the result of parsing a text, as a function
unfoldable pub cidr_of : List ℕ → Result Network (List ℕ)
cidr_of text = unmapped_cidr (written_cidr text)
