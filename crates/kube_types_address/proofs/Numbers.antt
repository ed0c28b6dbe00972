-- Addresses and their numbers.
use Rattle.std.proofs.Common.{◌≡◌, ℕ, zero, suc, ◌+◌, ◌*◌, ◌/◌, ◌%◌, ◌^◌, ◌<◌, ◌≤◌, cond, ltb, List, [], ◌∷◌, ◌++◌, length, length-append, get_or, refl, sym, ap, ap₂, ◌∙◌, subst, arith, lt-ltb, le-ltb, inl, inr}
use Rattle.std.proofs.Math.Nat.{pow-zero, pow-suc, mul-le-mul_left, div-mul-le_self, div-div-eq-div-mul}
use Rattle.std.proofs.NetLemmas.Arrays.{four_items, eight_items}
use Rattle.std.proofs.lemmas.Bool.{cases_lt}
use Rattle.std.proofs.lemmas.Nat.{div_below}
use Rattle.std.specs.Int.{w32, w128, from_be_bytes, to_be_bytes}
use Rattle.std.specs.Net.Addr.{IsIpv4OfBits, IsIpv6OfBits, octets_of, segments_of, ipv4_octets, ipv6_segments}
use Rattle.std.specs.declared.net.ipv4_addr.Ipv4Addr.{Ipv4Addr}
use Rattle.std.specs.declared.net.ipv6_addr.Ipv6Addr.{Ipv6Addr}
use Rattle.kube_types_address.specs.Addresses.{Address, four, six, IsAddress, family, width, value_after, number, lowest_digits, with_number}

value_after_append : (base n : ℕ) (xs ys : List ℕ) → value_after base n (xs ++ ys) ≡ value_after base (value_after base n xs) ys
unfolding value_after
value_after_append base n [] ys = refl
value_after_append base n (x ∷ xs) ys = value_after_append base (n * base + x) xs ys

one_more : (base n d : ℕ) → value_after base n (d ∷ []) ≡ n * base + d
unfolding value_after
one_more base n d = refl

-- the digits of a number spell it
value-lowest : (base count n : ℕ) → 0 < base → n < base ^ count → value_after base 0 (lowest_digits base count n) ≡ n
unfolding value_after lowest_digits
value-lowest base zero n h below = omega (arith, pow-zero base)
value-lowest base (suc count) n h below =
    let power = pow-suc base count in
    let front = value-lowest base count (n / base) h (div_below n base (base ^ count) h (omega arith)) in
    value_after_append base 0 (lowest_digits base count (n / base)) (n % base ∷ [])
    ∙ ap (λ v. v * base + n % base) front
    ∙ omega arith

-- one more digit, which is below the base
step_below : (base n d p v q : ℕ) → d < base → v < (n * base + d + 1) * p → q ≡ p * base → v < (n + 1) * q
step_below base n d p v q digit later power =
    let wider = mul-le-mul_left {m = n * base + d + 1} {n = n * base + base} p (omega arith) in
    let whole : (n + 1) * q ≡ (n + 1) * (p * base) = ap (λ x. (n + 1) * x) power in
    first_of (omega (arith, wider, whole), grind (arith, wider, whole))

-- digits spell a number below a power of the base
value_below : (base n : ℕ) (xs : List ℕ) → ((k : ℕ) → get_or xs k 0 < base) → value_after base n xs < (n + 1) * base ^ length xs
unfolding value_after
value_below base n [] small = rw pow-zero (omega arith)
value_below base n (d ∷ ds) small =
    step_below base n d (base ^ length ds) _ _ (small 0) (value_below base (n * base + d) ds (λ k. small (suc k))) (pow-suc base (length ds))

pub number_below : (a : Address) → IsAddress a → number a < 2 ^ width a
number_below (four octets) h = subst (λ k. value_after 256 0 octets < (0 + 1) * 256 ^ k) h.0 (value_below 256 0 octets h.1)
number_below (six groups) h = subst (λ k. value_after 65536 0 groups < (0 + 1) * 65536 ^ k) h.0 (value_below 65536 0 groups h.1)

-- an address made from a number has that number
pub number-with_number : (a : Address) (n : ℕ) → n < 2 ^ width a → number (with_number a n) ≡ n
number-with_number (four octets) n h = value-lowest 256 4 n (omega arith) h
number-with_number (six groups) n h = value-lowest 65536 8 n (omega arith) h

pub with_number_twice : (a : Address) (m n : ℕ) → with_number (with_number a m) n ≡ with_number a n
with_number_twice (four octets) m n = refl
with_number_twice (six groups) m n = refl

pub width-with_number : (a : Address) (n : ℕ) → width (with_number a n) ≡ width a
width-with_number (four octets) n = refl
width-with_number (six groups) n = refl

pub family-with_number : (a : Address) (n : ℕ) → family (with_number a n) ≡ family a
family-with_number (four octets) n = refl
family-with_number (six groups) n = refl

pub same_width : (a b : Address) → family a ≡ family b → width a ≡ width b
same_width (four x) (four y) e = refl
same_width (four x) (six y) e = absurd (omega arith)
same_width (six x) (four y) e = absurd (omega arith)
same_width (six x) (six y) e = refl

-- the numbers that `std` computes
four_value : (a b c d : ℕ) → from_be_bytes w32 (a ∷ b ∷ c ∷ d ∷ []) ≡ value_after 256 0 (a ∷ b ∷ c ∷ d ∷ [])
unfolding value_after
four_value a b c d = omega arith

pub octets_number : (o : List ℕ) → length o ≡ 4 → from_be_bytes w32 o ≡ value_after 256 0 o
octets_number o h = subst (λ t. from_be_bytes w32 t ≡ value_after 256 0 t) (sym (four_items o h)) (four_value _ _ _ _)

halves : (s : ℕ) → s / 256 * 256 + s % 256 ≡ s
halves s = omega arith

joined : (a b c d e f g h : ℕ) (a₁ a₀ b₁ b₀ c₁ c₀ d₁ d₀ e₁ e₀ f₁ f₀ g₁ g₀ h₁ h₀ : ℕ)
    → a₁ * 256 + a₀ ≡ a → b₁ * 256 + b₀ ≡ b → c₁ * 256 + c₀ ≡ c → d₁ * 256 + d₀ ≡ d
    → e₁ * 256 + e₀ ≡ e → f₁ * 256 + f₀ ≡ f → g₁ * 256 + g₀ ≡ g → h₁ * 256 + h₀ ≡ h
    → from_be_bytes w128 (a₁ ∷ a₀ ∷ b₁ ∷ b₀ ∷ c₁ ∷ c₀ ∷ d₁ ∷ d₀ ∷ e₁ ∷ e₀ ∷ f₁ ∷ f₀ ∷ g₁ ∷ g₀ ∷ h₁ ∷ h₀ ∷ [])
    ≡ value_after 65536 0 (a ∷ b ∷ c ∷ d ∷ e ∷ f ∷ g ∷ h ∷ [])
unfolding value_after
joined a b c d e f g h a₁ a₀ b₁ b₀ c₁ c₀ d₁ d₀ e₁ e₀ f₁ f₀ g₁ g₀ h₁ h₀ p q r s t u v w = omega arith

six_value : (a b c d e f g h : ℕ) → from_be_bytes w128 (octets_of (a ∷ b ∷ c ∷ d ∷ e ∷ f ∷ g ∷ h ∷ [])) ≡ value_after 65536 0 (a ∷ b ∷ c ∷ d ∷ e ∷ f ∷ g ∷ h ∷ [])
six_value a b c d e f g h = joined a b c d e f g h _ _ _ _ _ _ _ _ _ _ _ _ _ _ _ _ (halves a) (halves b) (halves c) (halves d) (halves e) (halves f) (halves g) (halves h)

length-octets : (xs : List ℕ) → length (octets_of xs) ≡ 2 * length xs
length-octets [] = refl
length-octets (x ∷ xs) = omega (arith, length-octets xs)

pub groups_number : (groups bytes : List ℕ) → bytes ≡ octets_of groups → length bytes ≡ 16 → from_be_bytes w128 bytes ≡ value_after 65536 0 groups
groups_number groups bytes e h =
    let eight : length groups ≡ 8 = omega (arith, length-octets groups, ap length e, h) in
    ap (from_be_bytes w128) e ∙ subst (λ g. from_be_bytes w128 (octets_of g) ≡ value_after 65536 0 g) (sym (eight_items groups eight)) (six_value _ _ _ _ _ _ _ _)

-- the digits that `std` computes
two_down : (n : ℕ) → n / 256 / 256 ≡ n / 65536
two_down n = div-div-eq-div-mul n 256 256

three_down : (n : ℕ) → n / 256 / 256 / 256 ≡ n / 16777216
three_down n = ap (λ x. x / 256) (two_down n) ∙ div-div-eq-div-mul n 65536 256

four_digits : (n : ℕ) → to_be_bytes w32 n ≡ lowest_digits 256 4 n
unfolding lowest_digits
four_digits n = ap₂ (λ a b. (a % 256) ∷ (b % 256) ∷ (n / 256 % 256) ∷ (n % 256) ∷ []) (sym (three_down n)) (sym (two_down n))

pub ipv4_of_number : (a : Ipv4Addr) (n : ℕ) → IsIpv4OfBits a n → ipv4_octets a ≡ lowest_digits 256 4 n
unfolding IsIpv4OfBits
ipv4_of_number a n h = h ∙ four_digits n

pair_digit : (m : ℕ) → m / 256 % 256 * 256 + m % 256 ≡ m % 65536
pair_digit m = omega arith

group_digit : (n p q m : ℕ) → p * 256 ≡ q → m ≡ n / p → n / q % 256 * 256 + n / p % 256 ≡ m % 65536
group_digit n p q m e h =
    ap (λ x. x % 256 * 256 + n / p % 256) (ap (λ x. n / x) (sym e) ∙ sym (div-div-eq-div-mul n p 256))
    ∙ pair_digit (n / p)
    ∙ ap (λ x. x % 65536) (sym h)

cons_same : (x y : ℕ) (xs ys : List ℕ) → x ≡ y → xs ≡ ys → x ∷ xs ≡ y ∷ ys
cons_same x y xs ys e h = ap₂ (λ a b. a ∷ b) e h

-- a quotient shifted right by one more group
down : (n m p : ℕ) → m ≡ n / p → m / 65536 ≡ n / (p * 65536)
down n m p e = ap (λ x. x / 65536) e ∙ div-div-eq-div-mul n p 65536

six_digits : (n : ℕ) → segments_of (to_be_bytes w128 n) ≡ lowest_digits 65536 8 n
unfolding lowest_digits
six_digits n =
    let one : n / 65536 ≡ n / 2 ^ 16 = refl in
    let two : n / 65536 / 65536 ≡ n / 2 ^ 32 = down n (n / 65536) (2 ^ 16) one in
    let three : n / 65536 / 65536 / 65536 ≡ n / 2 ^ 48 = down n (n / 65536 / 65536) (2 ^ 32) two in
    let four : n / 65536 / 65536 / 65536 / 65536 ≡ n / 2 ^ 64 = down n (n / 65536 / 65536 / 65536) (2 ^ 48) three in
    let five : n / 65536 / 65536 / 65536 / 65536 / 65536 ≡ n / 2 ^ 80 = down n (n / 65536 / 65536 / 65536 / 65536) (2 ^ 64) four in
    let sixth : n / 65536 / 65536 / 65536 / 65536 / 65536 / 65536 ≡ n / 2 ^ 96 = down n (n / 65536 / 65536 / 65536 / 65536 / 65536) (2 ^ 80) five in
    let seven : n / 65536 / 65536 / 65536 / 65536 / 65536 / 65536 / 65536 ≡ n / 2 ^ 112 = down n (n / 65536 / 65536 / 65536 / 65536 / 65536 / 65536) (2 ^ 96) sixth in
    cons_same _ _ _ _ (group_digit n (2 ^ 112) (2 ^ 120) _ refl seven)
    (cons_same _ _ _ _ (group_digit n (2 ^ 96) (2 ^ 104) _ refl sixth)
    (cons_same _ _ _ _ (group_digit n (2 ^ 80) (2 ^ 88) _ refl five)
    (cons_same _ _ _ _ (group_digit n (2 ^ 64) (2 ^ 72) _ refl four)
    (cons_same _ _ _ _ (group_digit n (2 ^ 48) (2 ^ 56) _ refl three)
    (cons_same _ _ _ _ (group_digit n (2 ^ 32) (2 ^ 40) _ refl two)
    (cons_same _ _ _ _ (group_digit n (2 ^ 16) (2 ^ 24) _ refl one)
    (cons_same _ _ _ _ (pair_digit n) refl)))))))

pub ipv6_of_number : (a : Ipv6Addr) (n : ℕ) → IsIpv6OfBits a n → ipv6_segments a ≡ lowest_digits 65536 8 n
unfolding IsIpv6OfBits
ipv6_of_number a n h = h ∙ six_digits n

-- the digits of a number make an address
length-lowest : (base count n : ℕ) → length (lowest_digits base count n) ≡ count
unfolding lowest_digits
length-lowest base zero n = refl
length-lowest base (suc count) n =
    length-append (lowest_digits base count (n / base)) (n % base ∷ []) ∙ ap (λ k. k + 1) (length-lowest base count (n / base)) ∙ omega arith

small_at_end : (base : ℕ) (xs : List ℕ) (d : ℕ) → 0 < base → d < base → ((k : ℕ) → get_or xs k 0 < base) → (k : ℕ) → get_or (xs ++ d ∷ []) k 0 < base
small_at_end base [] d some small all zero = small
small_at_end base [] d some small all (suc k) = some
small_at_end base (x ∷ xs) d some small all zero = all 0
small_at_end base (x ∷ xs) d some small all (suc k) = small_at_end base xs d some small (λ j. all (suc j)) k

lowest_small : (base count n : ℕ) → 0 < base → (k : ℕ) → get_or (lowest_digits base count n) k 0 < base
unfolding lowest_digits
lowest_small base zero n some k = some
lowest_small base (suc count) n some k = small_at_end base (lowest_digits base count (n / base)) (n % base) some (omega arith) (lowest_small base count (n / base) some) k

pub with_number_is_address : (a : Address) (n : ℕ) → IsAddress (with_number a n)
with_number_is_address (four octets) n = (length-lowest 256 4 n, lowest_small 256 4 n (omega arith))
with_number_is_address (six groups) n = (length-lowest 65536 8 n, lowest_small 65536 8 n (omega arith))

-- shifts by up to the whole width
pub shifted_down : (n k : ℕ) → n < 2 ^ 128 → k ≤ 128 → cond (ltb k 128) (n / 2 ^ k) 0 ≡ n / 2 ^ k
shifted_down n k below h = elim (cases_lt k 128) as (λ _. cond (ltb k 128) (n / 2 ^ k) 0 ≡ n / 2 ^ k) [
  | inl less ↦ ap (λ b. cond b (n / 2 ^ k) 0) (lt-ltb k 128 less)
  | inr more ↦
      let whole : k ≡ 128 = omega arith in
      let none : 0 ≡ n / 2 ^ 128 = omega arith in
      ap (λ b. cond b (n / 2 ^ k) 0) (le-ltb k 128 more) ∙ none ∙ ap (λ j. n / 2 ^ j) (sym whole)
]

pub shifted_back : (n k : ℕ) → n < 2 ^ 128 → k ≤ 128 → cond (ltb k 128) ((n / 2 ^ k * 2 ^ k) % 2 ^ 128) 0 ≡ n / 2 ^ k * 2 ^ k
shifted_back n k below h = elim (cases_lt k 128) as (λ _. cond (ltb k 128) ((n / 2 ^ k * 2 ^ k) % 2 ^ 128) 0 ≡ n / 2 ^ k * 2 ^ k) [
  | inl less ↦
      let part = div-mul-le_self n (2 ^ k) in
      let small : (n / 2 ^ k * 2 ^ k) % 2 ^ 128 ≡ n / 2 ^ k * 2 ^ k = omega arith in
      ap (λ b. cond b ((n / 2 ^ k * 2 ^ k) % 2 ^ 128) 0) (lt-ltb k 128 less) ∙ small
  | inr more ↦
      let whole : k ≡ 128 = omega arith in
      let none : 0 ≡ n / 2 ^ 128 * 2 ^ 128 = omega arith in
      ap (λ b. cond b ((n / 2 ^ k * 2 ^ k) % 2 ^ 128) 0) (le-ltb k 128 more) ∙ none ∙ ap (λ j. n / 2 ^ j * 2 ^ j) (sym whole)
]

-- shifting `k` bits out and back clears them
pub masked_bits : (n first shifted k : ℕ) → n < 2 ^ 128 → k ≤ 128 → first ≡ cond (ltb k 128) (n / 2 ^ k) 0 → shifted ≡ cond (ltb k 128) ((first * 2 ^ k) % 2 ^ 128) 0 → shifted ≡ n / 2 ^ k * 2 ^ k
masked_bits n first shifted k below h e f =
    f ∙ ap (λ x. cond (ltb k 128) ((x * 2 ^ k) % 2 ^ 128) 0) (e ∙ shifted_down n k below h) ∙ shifted_back n k below h

pub below_whole : (a : Address) (n : ℕ) → n < 2 ^ width a → n < 2 ^ 128
below_whole (four octets) n h = omega arith
below_whole (six groups) n h = h

pub width_small : (a : Address) → width a ≤ 128
width_small (four octets) = omega arith
width_small (six groups) = omega arith
