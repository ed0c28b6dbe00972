-- The offsets at which one text occurs in another: the first of them and the last.
use Rattle.std.proofs.Common.{◌≡◌, ℕ, zero, suc, ◌+◌, ◌-◌, ◌<◌, ◌≤◌, min, ◌⊎◌, ⊎_elim, eq-or-lt_of_le, arith, List, ◌∷◌, ◌++◌, length, take, drop, Bool, true, false, cond, Some, None, refl, sym, ap, ◌∙◌, drop-drop, length-append, length-drop, length-take, take-take}
use Rattle.std.specs.List.{find, range_with_len, starts_with}
use Rattle.std.specs.Prelude.{nat_eq}
use lib.Pointwise.{pointwise}
use Rattle.std.proofs.lemmas.List.{drop-take}
use Rattle.kube_functions_strings.specs.Cuts.{StandsNowhere, StandsFirst, StandsLast}
use Rattle.kube_functions_strings.specs.Offsets.{stands_at, offset_from, greatest_below}
use Rattle.kube_functions_strings.proofs.Occurring.{stands_between}

pub range_more : (k n : ℕ) → k < n → range_with_len k (n - k) ≡ k ∷ range_with_len (k + 1) (n - (k + 1))
range_more k n h = let e : n - k ≡ suc (n - (k + 1)) = omega arith in ap (range_with_len k) e

offset_next : (cs part : List ℕ) (k : ℕ) → k < suc (length cs) → offset_from cs part k ≡ cond (stands_at cs part k) (Some k) (offset_from cs part (k + 1))
offset_next cs part k h = ap (find (stands_at cs part)) (range_more k (suc (length cs)) h)

stands_here : (cs part : List ℕ) (k : ℕ) → k < suc (length cs) → stands_at cs part k ≡ true → offset_from cs part k ≡ Some k
stands_here cs part k h e = offset_next cs part k h ∙ ap (λ b. cond b (Some k) (offset_from cs part (k + 1))) e

stands_later : (cs part : List ℕ) (k : ℕ) → k < suc (length cs) → stands_at cs part k ≡ false → offset_from cs part k ≡ offset_from cs part (k + 1)
stands_later cs part k h e = offset_next cs part k h ∙ ap (λ b. cond b (Some k) (offset_from cs part (k + 1))) e

-- ---- the first offset

-- if the part occurs nowhere at the first j offsets and at the next one, that is the first offset
first_is : (cs part : List ℕ) (j k m : ℕ) → m ≡ k + j → m ≤ length cs → ((i : ℕ) → k ≤ i → i < m → stands_at cs part i ≡ false) → stands_at cs part m ≡ true → offset_from cs part k ≡ Some m
first_is cs part zero k m e le none here =
    let same : m ≡ k = omega arith in
    stands_here cs part k (omega arith) (ap (stands_at cs part) (sym same) ∙ here) ∙ ap Some (sym same)
first_is cs part (suc j) k m e le none here =
    stands_later cs part k (omega arith) (none k (omega arith) (omega arith))
    ∙ first_is cs part j (k + 1) m (omega arith) le (λ i from lt. none i (omega arith) lt) here

first_none : (cs part : List ℕ) (j k : ℕ) → suc (length cs) - k ≡ j → ((i : ℕ) → k ≤ i → i ≤ length cs → stands_at cs part i ≡ false) → offset_from cs part k ≡ None
first_none cs part zero k e none = ap (λ n. find (stands_at cs part) (range_with_len k n)) e
first_none cs part (suc j) k e none =
    stands_later cs part k (omega arith) (none k (omega arith) (omega arith)) ∙ first_none cs part j (k + 1) (omega arith) (λ i from le. none i (omega arith) le)

-- an offset in the text after k is an offset in the whole text
pub stands_behind : (cs part : List ℕ) (k i : ℕ) → k ≤ i → stands_at cs part i ≡ stands_at (drop k cs) part (i - k)
stands_behind cs part k i le =
    let e : i ≡ k + (i - k) = omega arith in
    ap (stands_at cs part) e ∙ ap (λ l. starts_with nat_eq l part) (sym (drop-drop (i - k) k cs))

pub found_behind : (cs part before behind : List ℕ) (k : ℕ) → k ≤ length cs → StandsFirst 0 (drop k cs) part before behind → (Some (k + length before) ≡ offset_from cs part k) × (k + length before ≤ length cs)
found_behind cs part before behind k le h =
    let q = length before in
    let within : k + q ≤ length cs = omega (arith, ap length h.0, length-drop k cs, length-append before (part ++ behind)) in
    let here : stands_at cs part (k + q) ≡ true =
    stands_behind cs part k (k + q) (omega arith) ∙ ap (stands_at (drop k cs) part) (let e : (k + q) - k ≡ q = omega arith in e) ∙ stands_between (drop k cs) part before behind h.0 in
    (sym (first_is cs part q k (k + q) refl within (λ i from lt. stands_behind cs part k i from ∙ h.2 (i - k) (omega arith) (omega arith)) here), within)

pub nowhere_behind : (cs part : List ℕ) (k : ℕ) → StandsNowhere 0 (drop k cs) part → None ≡ offset_from cs part k
nowhere_behind cs part k none =
    sym (first_none cs part (suc (length cs) - k) k refl (λ i from le. stands_behind cs part k i from ∙ none (i - k) (omega arith) (omega (arith, length-drop k cs))))

pub past_the_end : (cs part : List ℕ) (k : ℕ) → length cs < k → None ≡ offset_from cs part k
past_the_end cs part k lt = sym (first_none cs part 0 k (omega arith) (λ i from le. absurd (omega arith)))

-- ---- the last offset

greatest_is : (test : ℕ → Bool) (n q : ℕ) → q < n → test q ≡ true → ((k : ℕ) → q < k → k < n → test k ≡ false) → greatest_below test n ≡ Some q
greatest_is test zero q lt here none = absurd (omega arith)
greatest_is test (suc n) q lt here none = ⊎_elim (λ e. at_last e) (λ l. ap (λ b. cond b (Some n) (greatest_below test n)) (none n l (omega arith)) ∙ greatest_is test n q l here (λ k a b. none k a (omega arith))) (either q n lt)
  where
    at_last : q ≡ n → greatest_below test (suc n) ≡ Some q
    at_last e = ap (λ b. cond b (Some n) (greatest_below test n)) (ap test (sym e) ∙ here) ∙ ap Some (sym e)

    either : (q n : ℕ) → q < suc n → (q ≡ n) ⊎ (q < n)
    either q n lt = eq-or-lt_of_le (omega arith)

greatest_none : (test : ℕ → Bool) (n : ℕ) → ((k : ℕ) → k < n → test k ≡ false) → greatest_below test n ≡ None
greatest_none test zero none = refl
greatest_none test (suc n) none = ap (λ b. cond b (Some n) (greatest_below test n)) (none n (omega arith)) ∙ greatest_none test n (λ k lt. none k (omega arith))

-- a part that ends within the first n characters occurs there exactly if it occurs in the text
stands_within : (cs part : List ℕ) (n k : ℕ) → k + length part ≤ n → stands_at cs part k ≡ stands_at (take n cs) part k
stands_within cs part n k le =
    let e : n ≡ k + (n - k) = omega arith in
    let front : take (length part) (drop k (take n cs)) ≡ take (length part) (drop k cs) =
    ap (λ j. take (length part) (drop k (take j cs))) e ∙ ap (take (length part)) (drop-take k (n - k) cs) ∙ take-take (length part) (n - k) (drop k cs) (omega arith) in
    ap (pointwise nat_eq part) (sym front)

pub last_found : (cs part before behind : List ℕ) (most : ℕ) → 0 < length part → StandsLast (take (most + length part) cs) part before behind → (Some (length before) ≡ greatest_below (stands_at cs part) (suc (min most (length cs)))) × (length before ≤ length cs)
last_found cs part before behind most some h =
    let n = most + length part in
    let q = length before in
    let ends : q + length part ≤ min n (length cs) = omega (arith, length-take n cs, ap length h.0, length-append before (part ++ behind), length-append part behind) in
    let here : stands_at cs part q ≡ true = stands_within cs part n q (omega arith) ∙ stands_between (take n cs) part before behind h.0 in
    (sym (greatest_is (stands_at cs part) (suc (min most (length cs))) q (omega arith) here (λ k more lt. stands_within cs part n k (omega arith) ∙ h.1 k more (omega (arith, length-take n cs)))), omega arith)

pub last_nowhere : (cs part : List ℕ) (most : ℕ) → StandsNowhere 0 (take (most + length part) cs) part → None ≡ greatest_below (stands_at cs part) (suc (min most (length cs)))
last_nowhere cs part most none =
    let n = most + length part in
    sym (greatest_none (stands_at cs part) (suc (min most (length cs))) (λ k lt. stands_within cs part n k (omega arith) ∙ none k (omega arith) (omega (arith, length-take n cs))))
