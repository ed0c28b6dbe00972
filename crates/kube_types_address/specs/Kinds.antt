-- Trusted by the headline.
-- The kinds of addresses.
-- Source: the address blocks of RFC 1122, section 3.2.1.3, RFC 3927, RFC 5771,
-- section 4, and RFC 4291, sections 2.5.2, 2.5.3, 2.5.6 and 2.7; `IsGlobalUnicast`
-- and `IsLinkLocalMulticast` as Go's package `net` defines them.
use Rattle.std.specs.Prelude.{Bool, false, not, ◌&&◌, ◌||◌, ◌==◌, [], ◌∷◌, slice_index, bytes_eq, bit_and}
use Rattle.std.specs.Int.{is_in_range}
use Rattle.kube_types_address.specs.Addresses.{Address, four, six}

-- 127.0.0.0/8, and ::1
abbrev pub loopback : Address → Bool
loopback (four octets) = slice_index octets 0 == 127
loopback (six groups) = bytes_eq groups (0 ∷ 0 ∷ 0 ∷ 0 ∷ 0 ∷ 0 ∷ 0 ∷ 1 ∷ [])

-- 0.0.0.0, and ::
abbrev pub unspecified : Address → Bool
unspecified (four octets) = bytes_eq octets (0 ∷ 0 ∷ 0 ∷ 0 ∷ [])
unspecified (six groups) = bytes_eq groups (0 ∷ 0 ∷ 0 ∷ 0 ∷ 0 ∷ 0 ∷ 0 ∷ 0 ∷ [])

-- 224.0.0.0/4, and ff00::/8
abbrev pub multicast : Address → Bool
multicast (four octets) = is_in_range 224 239 (slice_index octets 0)
multicast (six groups) = is_in_range 0xff00 0xffff (slice_index groups 0)

-- 224.0.0.0/24, and the multicast addresses of link-local scope, with any flags
abbrev pub link_local_multicast : Address → Bool
link_local_multicast (four octets) =
    (slice_index octets 0 == 224) && ((slice_index octets 1 == 0) && (slice_index octets 2 == 0))
link_local_multicast (six groups) = bit_and (slice_index groups 0) 0xff0f == 0xff02

-- 169.254.0.0/16, and fe80::/10
abbrev pub link_local_unicast : Address → Bool
link_local_unicast (four octets) = (slice_index octets 0 == 169) && (slice_index octets 1 == 254)
link_local_unicast (six groups) = is_in_range 0xfe80 0xfebf (slice_index groups 0)

-- 255.255.255.255
abbrev pub broadcast : Address → Bool
broadcast (four octets) = bytes_eq octets (255 ∷ 255 ∷ 255 ∷ 255 ∷ [])
broadcast (six groups) = false

-- none of these
abbrev pub global_unicast : Address → Bool
global_unicast a =
    not (loopback a || (unspecified a || (multicast a || (link_local_unicast a || broadcast a))))
