-- A text parses to a valid address, and a CIDR's text to a valid network.
use Rattle.kube_types_address.specs.Addresses.{Address, four, six, IsAddress, is_mapped}
use Rattle.kube_types_address.specs.CidrTexts.{IsCidrAnswer, cidr_of}
use Rattle.kube_types_address.specs.Prefixes.{IsNetwork, Network}
use Rattle.kube_types_address.specs.Texts.{IsIpAnswer, IsTextOf, ip_of}
use Rattle.kube_types_address.proofs.Cuts.{cidr_of-is_answer}
use Rattle.kube_types_address.proofs.Readings.{ip_of-is_answer}
use Rattle.std.proofs.Common.{◌≡◌, ◌<◌, ◌≤◌, ◌+◌, ◌-◌, ◌*◌, ◌^◌, ℕ, zero, suc, Bool, true, false, List, [], ◌∷◌, ◌++◌, length, replicate, slice_index, inl, inr, Ok, refl, sym, ap, ◌∙◌, subst, arith, codes, length-append}
use Rattle.std.proofs.lemmas.Int.Digits.{digits_value-lt}
use Rattle.std.specs.Net.Addr.{segments_of}
use Rattle.std.specs.Net.Grammar.{IsDotted, IsElided, IsGroup, IsGroupsAfter}
use Rattle.std.specs.Str.Parse.{digits_value}

-- ---- numbers below a bound

abbrev Below : ℕ → List ℕ → Type 0
Below m [] = Unit {0}
Below m (x ∷ xs) = (x < m) × Below m xs

index_below : (m : ℕ) → 0 < m → (xs : List ℕ) (k : ℕ) → Below m xs → slice_index xs k < m
index_below m some [] k h = some
index_below m some (x ∷ xs) zero h = h.0
index_below m some (x ∷ xs) (suc k) h = index_below m some xs k h.1

below_append : (m : ℕ) (xs ys : List ℕ) → Below m xs → Below m ys → Below m (xs ++ ys)
below_append m [] ys h g = g
below_append m (x ∷ xs) ys h g = (h.0, below_append m xs ys h.1 g)

below_replicate : (m n : ℕ) → 0 < m → Below m (replicate n 0)
below_replicate m zero some = tt
below_replicate m (suc n) some = (some, below_replicate m n some)

length_replicate : (n : ℕ) → length {A = ℕ} (replicate n 0) ≡ n
length_replicate zero = refl
length_replicate (suc n) = ap suc (length_replicate n)

-- ---- groups of hex digits

small_power : (text : List ℕ) → length text ≤ 4 → 16 ^ length text ≤ 65536
small_power [] h = omega arith
small_power (a ∷ []) h = omega arith
small_power (a ∷ b ∷ []) h = omega arith
small_power (a ∷ b ∷ c ∷ []) h = omega arith
small_power (a ∷ b ∷ c ∷ d ∷ []) h = omega arith
small_power (a ∷ b ∷ c ∷ d ∷ e ∷ text) h = absurd (omega (arith, h))

group_below : (text : List ℕ) (s : ℕ) → IsGroup text s → s < 65536
group_below text s g =
    let least = digits_value-lt 16 text g.0.0.1 in
    let most = small_power text g.1 in
    let same = g.0.1 in
    omega (arith, least, most, same)

dotted_below : (text octets : List ℕ) → IsDotted text octets → Below 256 octets
dotted_below text octets d = subst (Below 256) (sym d.value) (d.fit.0, (d.fit.1, (d.fit.2, (d.fit.3, tt))))

pair_below : (a b : ℕ) → a < 256 → b < 256 → a * 256 + b < 65536
pair_below a b h g = omega (arith, h, g)

segments_below : (text octets : List ℕ) → IsDotted text octets → Below 65536 (segments_of octets)
segments_below text octets d =
    subst (λ os. Below 65536 (segments_of os)) (sym d.value) (pair_below d.a d.b d.fit.0 d.fit.1, (pair_below d.c d.d d.fit.2 d.fit.3, tt))

groups_below : (dotted : Bool) (lead text segments : List ℕ) → IsGroupsAfter dotted lead text segments → Below 65536 segments
groups_below dotted lead text [] h = tt
groups_below dotted lead text (s ∷ segments) (inl h) = (group_below h.0 s h.3, groups_below dotted (codes ":") h.1 segments h.4)
groups_below dotted lead text (s ∷ segments) (inr h) = subst (Below 65536) (sym h.5) (segments_below h.0 h.1 h.4)

-- the groups before `::`, and the zeros that it stands for
abbrev front : (text segments : List ℕ) → IsElided text segments → List ℕ
front text segments e = e.head ++ replicate (8 - length e.head - length e.tail) 0

elided_below : (text segments : List ℕ) → IsElided text segments → Below 65536 segments
elided_below text segments e =
    let zeros = below_replicate 65536 (8 - length e.head - length e.tail) (omega arith) in
    let first = below_append 65536 e.head (replicate (8 - length e.head - length e.tail) 0) (groups_below false [] e.head_text e.head e.head_groups) zeros in
    subst (Below 65536) (sym e.value) (below_append 65536 (front text segments e) e.tail first (groups_below true [] e.tail_text e.tail e.tail_groups))

elided_length : (text segments : List ℕ) → IsElided text segments → length segments ≡ 8
elided_length text segments e =
    let room = e.room in
    let zeros = length_replicate (8 - length e.head - length e.tail) in
    let first = length-append e.head (replicate (8 - length e.head - length e.tail) 0) in
    let all = length-append (front text segments e) e.tail in
    ap length e.value ∙ omega (arith, room, zeros, first, all)

-- ---- addresses and networks

pub text_is_address : (text : List ℕ) (a : Address) → IsTextOf text a → IsAddress a
text_is_address text (four octets) d = (ap length d.value, λ k. index_below 256 (omega arith) octets k (dotted_below text octets d))
text_is_address text (six groups) (inl h) = (h.1, λ k. index_below 65536 (omega arith) groups k (groups_below true [] text groups h.0))
text_is_address text (six groups) (inr e) = (elided_length text groups e, λ k. index_below 65536 (omega arith) groups k (elided_below text groups e))

pub read_is_address : (text : List ℕ) (a : Address) → ip_of text ≡ Ok a → IsAddress a × (is_mapped a ≡ false)
read_is_address text a e =
    let r = subst (IsIpAnswer text) e (ip_of-is_answer text) in
    (text_is_address text a r.1, r.2)

pub read_is_network : (text : List ℕ) (c : Network) → cidr_of text ≡ Ok c → IsNetwork c × (is_mapped c.ip ≡ false)
read_is_network text c e =
    let r = subst (IsCidrAnswer text) e (cidr_of-is_answer text) in
    ((text_is_address r.0.front c.ip r.0.ip_text, r.0.within), r.1)
