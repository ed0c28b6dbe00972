-- CIDRs as sets of addresses.
use Rattle.std.proofs.Common.{◌≡◌, ℕ, suc, ◌+◌, ◌-◌, ◌*◌, ◌/◌, ◌^◌, ◌<◌, ◌≤◌, Bool, true, false, ◌&&◌, eqb, leb, ◌↔◌, refl, sym, ap, ap₂, ◌∙◌, subst, arith, inl, inr, eq-eqb, le-leb}
use Rattle.std.proofs.Math.Nat.{pow-suc, mul-le-mul_left, div-mul-le_self, div-div-eq-div-mul, mul-div_cancel}
use Rattle.std.proofs.lemmas.Bool.{cases_lt, eqb-true, leb-true}
use Rattle.std.proofs.lemmas.Nat.{pow_pos, pow_below, pow-add, div_below, div-mul-add}
use Rattle.std.specs.Cmp.{first_so, second_so}
use Rattle.kube_types_address.proofs.Numbers.{number_below, number-with_number, with_number_twice, width-with_number, family-with_number, same_width, with_number_is_address}
use Rattle.kube_types_address.specs.Addresses.{Address, IsAddress, family, width, number, with_number}
use Rattle.kube_types_address.specs.Prefixes.{Network, IsNetwork, first_bits, holds, encloses, masked_network}

both_true : (a b : Bool) → a ≡ true → b ≡ true → (a && b) ≡ true
both_true true b h k = k
both_true false b h k = absurd (cc)

-- what it means to be a member
pub record Member (c : Network) (a : Address) : Type 0 where
  pub one_family : family c.ip ≡ family a
  pub bits : first_bits c.prefix c.ip ≡ first_bits c.prefix a

member_from : (c : Network) (a : Address) → holds c a ≡ true → Member c a
member_from c a h = record {
  one_family = eqb-true (family c.ip) (family a) (first_so (eqb (family c.ip) (family a)) (eqb (first_bits c.prefix c.ip) (first_bits c.prefix a)) h);
  bits = eqb-true (first_bits c.prefix c.ip) (first_bits c.prefix a) (second_so (eqb (family c.ip) (family a)) (eqb (first_bits c.prefix c.ip) (first_bits c.prefix a)) h);
}

holds_from : (c : Network) (a : Address) → Member c a → holds c a ≡ true
holds_from c a m = both_true (eqb (family c.ip) (family a)) (eqb (first_bits c.prefix c.ip) (first_bits c.prefix a)) (eq-eqb (family c.ip) (family a) m.one_family) (eq-eqb (first_bits c.prefix c.ip) (first_bits c.prefix a) m.bits)

-- a shorter prefix is a quotient of a longer one
coarser : (n w less more : ℕ) → less ≤ more → more ≤ w → n / 2 ^ (w - less) ≡ n / 2 ^ (w - more) / 2 ^ (more - less)
coarser n w less more h k =
    let apart : w - less ≡ (w - more) + (more - less) = omega arith in
    ap (λ j. n / 2 ^ j) apart ∙ ap (λ p. n / p) (pow-add 2 (w - more) (more - less)) ∙ sym (div-div-eq-div-mul n (2 ^ (w - more)) (2 ^ (more - less)))

first_bits_coarser : (a : Address) (less more : ℕ) → less ≤ more → more ≤ width a → first_bits less a ≡ first_bits more a / 2 ^ (more - less)
first_bits_coarser a less more h k = coarser (number a) (width a) less more h k

-- an inner set is contained in the outer one
pub inside : (outer inner : Network) → IsNetwork inner → encloses outer inner ≡ true → (a : Address) → holds inner a ≡ true → holds outer a ≡ true
inside outer inner net h a k =
    let near = member_from outer inner.ip (first_so (holds outer inner.ip) (leb outer.prefix inner.prefix) h) in
    let short = leb-true outer.prefix inner.prefix (second_so (holds outer inner.ip) (leb outer.prefix inner.prefix) h) in
    let far = member_from inner a k in
    let wide : inner.prefix ≤ width a = subst (λ w. inner.prefix ≤ w) (same_width inner.ip a far.one_family) net.1 in
    holds_from outer a (record {
      one_family = near.one_family ∙ far.one_family;
      bits = near.bits ∙ first_bits_coarser inner.ip outer.prefix inner.prefix short net.1 ∙ ap (λ b. b / 2 ^ (inner.prefix - outer.prefix)) far.bits ∙ sym (first_bits_coarser a outer.prefix inner.prefix short wide);
    })

-- two numbers that differ in one bit differ in every quotient that keeps it
doubled : (p j : ℕ) → p * 2 ^ suc j ≡ (2 * p) * 2 ^ j
doubled p j = let power = pow-suc 2 j in omega (arith, ap (λ x. p * x) power)

pub no_finer : (p j m : ℕ) → m ≤ j → (p * 2 ^ suc j) / 2 ^ m ≡ (p * 2 ^ suc j + 2 ^ j) / 2 ^ m → ⊥
no_finer p j m h e =
    let apart : j ≡ m + (j - m) = omega arith in
    let finer : (n : ℕ) → n / 2 ^ m / 2 ^ (j - m) ≡ n / 2 ^ j = λ n. div-div-eq-div-mul n (2 ^ m) (2 ^ (j - m)) ∙ ap (λ q. n / q) (sym (pow-add 2 m (j - m)) ∙ ap (λ i. 2 ^ i) (sym apart)) in
    let same : (p * 2 ^ suc j) / 2 ^ j ≡ (p * 2 ^ suc j + 2 ^ j) / 2 ^ j = sym (finer _) ∙ ap (λ q. q / 2 ^ (j - m)) e ∙ finer _ in
    let low : (p * 2 ^ suc j) / 2 ^ j ≡ 2 * p = ap (λ q. q / 2 ^ j) (doubled p j) ∙ mul-div_cancel (2 * p) (pow_pos j) in
    let up : p * 2 ^ suc j + 2 ^ j ≡ (2 * p + 1) * 2 ^ j = omega (arith, doubled p j) in
    let high : (p * 2 ^ suc j + 2 ^ j) / 2 ^ j ≡ 2 * p + 1 = ap (λ q. q / 2 ^ j) up ∙ mul-div_cancel (2 * p + 1) (pow_pos j) in
    omega (arith, sym low ∙ same ∙ high)

-- the address of a set whose bits after the prefix are `low`
member_at : (c : Network) (low : ℕ) → IsNetwork c → low < 2 ^ (width c.ip - c.prefix) → first_bits c.prefix c.ip * 2 ^ (width c.ip - c.prefix) + low < 2 ^ width c.ip → Member c (with_number c.ip (first_bits c.prefix c.ip * 2 ^ (width c.ip - c.prefix) + low))
member_at c low net small below =
    let n = first_bits c.prefix c.ip * 2 ^ (width c.ip - c.prefix) + low in
    let is = number-with_number c.ip n below in
    record {
      one_family = sym (family-with_number c.ip n);
      bits = sym (ap₂ (λ x w. x / 2 ^ (w - c.prefix)) is (width-with_number c.ip n) ∙ div-mul-add (first_bits c.prefix c.ip) (2 ^ (width c.ip - c.prefix)) low small);
    }

-- all addresses of the set are below 2 to the width
pub set_below : (c : Network) → IsNetwork c → first_bits c.prefix c.ip * 2 ^ (width c.ip - c.prefix) + 2 ^ (width c.ip - c.prefix) ≤ 2 ^ width c.ip
set_below c net =
    let host = 2 ^ (width c.ip - c.prefix) in
    let power : 2 ^ width c.ip ≡ 2 ^ c.prefix * host = ap (λ i. 2 ^ i) (let apart : width c.ip ≡ c.prefix + (width c.ip - c.prefix) = omega (arith, net.1) in apart) ∙ pow-add 2 c.prefix (width c.ip - c.prefix) in
    let few : first_bits c.prefix c.ip < 2 ^ c.prefix = div_below (number c.ip) host (2 ^ c.prefix) (pow_pos (width c.ip - c.prefix)) (omega (arith, number_below c.ip net.0, power)) in
    let rows = mul-le-mul_left {m = first_bits c.prefix c.ip + 1} {n = 2 ^ c.prefix} host (omega arith) in
    omega (arith, rows, power)

-- if the outer prefix is longer, some inner address is outside
longer : (outer inner : Network) (j : ℕ) → IsNetwork outer → IsNetwork inner → family outer.ip ≡ family inner.ip → width inner.ip - inner.prefix ≡ suc j → inner.prefix < outer.prefix → ((a : Address) → IsAddress a → holds inner a ≡ true → holds outer a ≡ true) → ⊥
longer outer inner j out net one host h all =
    let p = first_bits inner.prefix inner.ip in
    let w = width inner.ip in
    let room : p * 2 ^ suc j + 2 ^ suc j ≤ 2 ^ w = subst (λ k. p * 2 ^ k + 2 ^ k ≤ 2 ^ w) host (set_below inner net) in
    let half : 2 ^ j < 2 ^ suc j = pow_below j (suc j) (omega arith) in
    let first = subst (λ k. p * 2 ^ k + 0 < 2 ^ w → 0 < 2 ^ k → Member inner (with_number inner.ip (p * 2 ^ k + 0))) host (λ b s. member_at inner 0 net s b) (omega (arith, room, half)) (omega (arith, half)) in
    let second = subst (λ k. p * 2 ^ k + 2 ^ j < 2 ^ w → 2 ^ j < 2 ^ k → Member inner (with_number inner.ip (p * 2 ^ k + 2 ^ j))) host (λ b s. member_at inner (2 ^ j) net s b) (omega (arith, room, half)) half in
    let in_first = member_from outer _ (all _ (with_number_is_address inner.ip (p * 2 ^ suc j + 0)) (holds_from inner _ first)) in
    let in_second = member_from outer _ (all _ (with_number_is_address inner.ip (p * 2 ^ suc j + 2 ^ j)) (holds_from inner _ second)) in
    let low = ap₂ (λ x v. x / 2 ^ (v - outer.prefix)) (number-with_number inner.ip (p * 2 ^ suc j + 0) (omega (arith, room, half))) (width-with_number inner.ip (p * 2 ^ suc j + 0)) in
    let high = ap₂ (λ x v. x / 2 ^ (v - outer.prefix)) (number-with_number inner.ip (p * 2 ^ suc j + 2 ^ j) (omega (arith, room, half))) (width-with_number inner.ip (p * 2 ^ suc j + 2 ^ j)) in
    let none : p * 2 ^ suc j ≡ p * 2 ^ suc j + 0 = omega arith in
    no_finer p j (w - outer.prefix) (omega (arith, host, h)) (ap (λ x. x / 2 ^ (w - outer.prefix)) none ∙ sym low ∙ sym in_first.bits ∙ in_second.bits ∙ high)

pub contained : (outer inner : Network) → IsNetwork outer → IsNetwork inner → ((a : Address) → IsAddress a → holds inner a ≡ true → holds outer a ≡ true) → encloses outer inner ≡ true
contained outer inner out net all =
    let near = all inner.ip net.0 (holds_from inner inner.ip (record { one_family = refl; bits = refl })) in
    let one = (member_from outer inner.ip near).one_family in
    elim (cases_lt inner.prefix outer.prefix) as (λ _. encloses outer inner ≡ true) [
      | inl less ↦
          let wide : outer.prefix ≤ width inner.ip = subst (λ w. outer.prefix ≤ w) (same_width outer.ip inner.ip one) out.1 in
          let host : width inner.ip - inner.prefix ≡ suc (width inner.ip - inner.prefix - 1) = omega arith in
          absurd (longer outer inner (width inner.ip - inner.prefix - 1) out net one host less all)
      | inr more ↦ both_true (holds outer inner.ip) (leb outer.prefix inner.prefix) near (le-leb outer.prefix inner.prefix more)
    ]

pub containment : (outer inner : Network) → IsNetwork outer → IsNetwork inner → (encloses outer inner ≡ true) ↔ ((a : Address) → IsAddress a → holds inner a ≡ true → holds outer a ≡ true)
containment outer inner out net = ((λ h a _ k. inside outer inner net h a k), contained outer inner out net)

-- the same for the result of a test
pub containment_of : (outer inner : Network) (answer : Bool) → IsNetwork outer → IsNetwork inner → answer ≡ encloses outer inner → (answer ≡ true) ↔ ((a : Address) → IsAddress a → holds inner a ≡ true → holds outer a ≡ true)
containment_of outer inner answer out net is = ((λ h a _ k. inside outer inner net (sym is ∙ h) a k), (λ all. is ∙ contained outer inner out net all))

-- the first address of a set
first_below : (c : Network) → IsNetwork c → first_bits c.prefix c.ip * 2 ^ (width c.ip - c.prefix) < 2 ^ width c.ip
first_below c net = omega (arith, set_below c net, pow_pos (width c.ip - c.prefix))

pub number-masked : (c : Network) → IsNetwork c → number (masked_network c).ip ≡ first_bits c.prefix c.ip * 2 ^ (width c.ip - c.prefix)
number-masked c net = number-with_number c.ip _ (first_below c net)

first_bits-masked : (c : Network) → IsNetwork c → first_bits c.prefix (masked_network c).ip ≡ first_bits c.prefix c.ip
first_bits-masked c net =
    ap₂ (λ x w. x / 2 ^ (w - c.prefix)) (number-masked c net) (width-with_number c.ip _)
    ∙ mul-div_cancel (first_bits c.prefix c.ip) (pow_pos (width c.ip - c.prefix))

pub masked_twice : (c : Network) → IsNetwork c → masked_network (masked_network c) ≡ masked_network c
masked_twice c net =
    let same = ap₂ (λ b w. b * 2 ^ (w - c.prefix)) (first_bits-masked c net) (width-with_number c.ip (first_bits c.prefix c.ip * 2 ^ (width c.ip - c.prefix))) in
    ap (λ a. record { ip = a; prefix = c.prefix }) (with_number_twice c.ip _ _ ∙ ap (with_number c.ip) same)

pub masked_least : (c : Network) → IsNetwork c → (holds c (masked_network c).ip ≡ true) × ((a : Address) → holds c a ≡ true → number (masked_network c).ip ≤ number a)
masked_least c net = (
  holds_from c (masked_network c).ip (record { one_family = sym (family-with_number c.ip _); bits = sym (first_bits-masked c net) }),
  λ a h.
      let m = member_from c a h in
      let part = div-mul-le_self (number a) (2 ^ (width a - c.prefix)) in
      let same = ap₂ (λ b w. b * 2 ^ (w - c.prefix)) m.bits (same_width c.ip a m.one_family) in
      omega (arith, number-masked c net, same, part),
)
