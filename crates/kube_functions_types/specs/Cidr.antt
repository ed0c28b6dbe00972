-- Trusted by the headline.
-- Functions on CIDRs (Kubernetes documentation, "CEL in Kubernetes", CIDR library; `CIDR` in
-- `k8s.io/apiserver/pkg/cel/library`). A CIDR is the set of its addresses: it contains an address
-- that is in the set, and another CIDR all of whose addresses are.
use Rattle.std.specs.Prelude.{ℕ, pos, ◌==◌, List, codes, Bool, false, Result, Ok, Err, is_ok}
use Rattle.kube_types.specs.Addresses.{family}
use Rattle.kube_types.specs.CidrTexts as cidr_texts
use Rattle.kube_types.specs.Prefixes as prefixes
use Rattle.kube_types.specs.Texts as texts
use Rattle.cel_value.specs.Data.{Data, int, text, ip, cidr}
use Rattle.cel_value.specs.Faults.{Fault, function_error}
use Rattle.cel_semantics.specs.Outcome.{Outcome, and_then}
use Rattle.kube_functions_types.specs.Answers.{wrong_kind, bool_answer, value_or_why}

-- `cidr`: parses a string as a CIDR
abbrev pub cidr_of : Data → Outcome
cidr_of (text s) = value_or_why (codes "cidr") cidr (cidr_texts.cidr_of s)
cidr_of _ = wrong_kind (codes "cidr")

-- `isCIDR`: does a string parse as a CIDR?
abbrev pub is_cidr : Data → Outcome
is_cidr (text s) = bool_answer (is_ok (cidr_texts.cidr_of s))
is_cidr _ = wrong_kind (codes "isCIDR")

-- a CIDR was read, and it is of this family
abbrev pub is_of_family : ℕ → Result prefixes.Network (List ℕ) → Bool
is_of_family n (Ok c) = family c.ip == n
is_of_family n (Err message) = false

-- `isCIDRv4`, `isCIDRv6`: does a string parse as a CIDR of that family?
abbrev pub is_cidr_v4 : Data → Outcome
is_cidr_v4 (text s) = bool_answer (is_of_family 4 (cidr_texts.cidr_of s))
is_cidr_v4 _ = wrong_kind (codes "isCIDRv4")

abbrev pub is_cidr_v6 : Data → Outcome
is_cidr_v6 (text s) = bool_answer (is_of_family 6 (cidr_texts.cidr_of s))
is_cidr_v6 _ = wrong_kind (codes "isCIDRv6")

-- what was read, or the named function's error with the reason why nothing was
abbrev pub or_why : {A : Type 0} → List ℕ → Result A (List ℕ) → Result A Fault
or_why name (Ok x) = Ok x
or_why name (Err message) = Err (function_error name message)

-- `containsIP`: is an address in the set? a string is parsed as an address
abbrev pub contains_ip : Data → Data → Outcome
contains_ip (cidr c) (ip a) = bool_answer (prefixes.holds c a)
contains_ip (cidr c) (text s) =
    and_then (or_why (codes "containsIP") (texts.ip_of s)) (λ a. bool_answer (prefixes.holds c a))
contains_ip _ _ = wrong_kind (codes "containsIP")

-- `containsCIDR`: is every address of another CIDR in the set? a string is parsed as a CIDR
abbrev pub contains_cidr : Data → Data → Outcome
contains_cidr (cidr c) (cidr d) = bool_answer (prefixes.encloses c d)
contains_cidr (cidr c) (text s) =
    and_then (or_why (codes "containsCIDR") (cidr_texts.cidr_of s)) (λ d. bool_answer (prefixes.encloses c d))
contains_cidr _ _ = wrong_kind (codes "containsCIDR")

-- `prefixLength`: the length of the prefix in bits
abbrev pub prefix_length : Data → Outcome
prefix_length (cidr c) = Ok (int (pos c.prefix))
prefix_length _ = wrong_kind (codes "prefixLength")

-- `masked`: the same set, written with its first address
abbrev pub masked_cidr : Data → Outcome
masked_cidr (cidr c) = Ok (cidr (prefixes.masked_network c))
masked_cidr _ = wrong_kind (codes "masked")

-- `ip` of a CIDR: its address as written, including the host bits
abbrev pub written_ip : Data → Outcome
written_ip (cidr c) = Ok (ip c.ip)
written_ip _ = wrong_kind (codes "ip")
