-- Trusted by the headline.
-- Functions on IP addresses (Kubernetes documentation, "CEL in Kubernetes", IP address library;
-- `IP` in `k8s.io/apiserver/pkg/cel/library`).
use Rattle.std.specs.Prelude.{ℕ, pos, ◌==◌, List, codes, Bool, false, Result, Ok, Err, is_ok}
use Rattle.kube_types.specs.Addresses.{Address, family}
use Rattle.kube_types.specs.Kinds.{loopback, unspecified, link_local_multicast, link_local_unicast, global_unicast}
use Rattle.kube_types.specs.Texts as texts
use Rattle.cel_value.specs.Data.{Data, bool, int, text, ip}
use Rattle.cel_semantics.specs.Outcome.{Outcome}
use Rattle.kube_functions_types.specs.Answers.{wrong_kind, bool_answer, value_or_why}

-- `ip`: parses a string as an address
abbrev pub ip_of : Data → Outcome
ip_of (text s) = value_or_why (codes "ip") ip (texts.ip_of s)
ip_of _ = wrong_kind (codes "ip")

-- `isIP`: does a string parse as an address?
abbrev pub is_ip : Data → Outcome
is_ip (text s) = bool_answer (is_ok (texts.ip_of s))
is_ip _ = wrong_kind (codes "isIP")

-- an address was read, and it is of this family
abbrev pub is_of_family : ℕ → Result Address (List ℕ) → Bool
is_of_family n (Ok a) = family a == n
is_of_family n (Err message) = false

-- `isIPv4`, `isIPv6`: does a string parse as an address of that family?
abbrev pub is_ipv4 : Data → Outcome
is_ipv4 (text s) = bool_answer (is_of_family 4 (texts.ip_of s))
is_ipv4 _ = wrong_kind (codes "isIPv4")

abbrev pub is_ipv6 : Data → Outcome
is_ipv6 (text s) = bool_answer (is_of_family 6 (texts.ip_of s))
is_ipv6 _ = wrong_kind (codes "isIPv6")

-- `ip.isCanonical`: is a string the canonical text of its address?
abbrev pub is_canonical : Data → Outcome
is_canonical (text s) = value_or_why (codes "ip.isCanonical") bool (texts.canonical_of s)
is_canonical _ = wrong_kind (codes "ip.isCanonical")

-- `family`: 4 or 6
abbrev pub family_of : Data → Outcome
family_of (ip a) = Ok (int (pos (family a)))
family_of _ = wrong_kind (codes "family")

-- the result of a test of an address; `name` is the function's name in errors
abbrev pub address_test : List ℕ → (Address → Bool) → Data → Outcome
address_test name test (ip a) = bool_answer (test a)
address_test name test _ = wrong_kind name

abbrev pub is_loopback : Data → Outcome
is_loopback = address_test (codes "isLoopback") loopback

abbrev pub is_unspecified : Data → Outcome
is_unspecified = address_test (codes "isUnspecified") unspecified

abbrev pub is_link_local_multicast : Data → Outcome
is_link_local_multicast = address_test (codes "isLinkLocalMulticast") link_local_multicast

abbrev pub is_link_local_unicast : Data → Outcome
is_link_local_unicast = address_test (codes "isLinkLocalUnicast") link_local_unicast

abbrev pub is_global_unicast : Data → Outcome
is_global_unicast = address_test (codes "isGlobalUnicast") global_unicast
