-- `separators` gives exactly the separators found from the left.
use Rattle.kube_functions_strings.specs.Offsets.{stands_at}
use Rattle.kube_functions_strings.specs.Pieces.{is_next, separators, spans_among}
use Rattle.kube_functions_strings.specs.Separators.{AreFromLeft}
use Rattle.std.proofs.Common.{◌≡◌, ◌+◌, ◌<◌, ◌≤◌, ◌&&◌, ℕ, zero, suc, List, [], ◌∷◌, length, map, Bool, true, false, nat_le, nat_lt, if◌then◌else◌, refl, sym, ap, ◌∙◌, subst, arith}
use Rattle.std.proofs.lemmas.Bool.{and_parts}
use Rattle.std.proofs.lemmas.Bool.Decides.{nat_tests}
use Rattle.std.specs.List.{range_with_len}

second_false : (a b : Bool) → a ≡ true → (a && b) ≡ false → b ≡ false
second_false true b h e = e
second_false false b h e = cc

-- a part that isn't empty occurs at no offset past the last character
stands_past : (cs : List ℕ) (c : ℕ) (part : List ℕ) (k : ℕ) → length cs ≤ k → stands_at cs (c ∷ part) k ≡ false
stands_past [] c part zero l = refl
stands_past [] c part (suc k) l = refl
stands_past (d ∷ cs) c part zero l = absurd (omega (arith, l))
stands_past (d ∷ cs) c part (suc k) l = stands_past cs c part k (omega (arith, l))

module _ (cs : List ℕ) (c : ℕ) (part : List ℕ) where
  pub spans_from : (n m end : ℕ) → m + n ≡ suc (length cs) → ((k : ℕ) → end ≤ k → k < m → stands_at cs (c ∷ part) k ≡ false)
      → AreFromLeft cs (c ∷ part) end (spans_among cs (c ∷ part) end (range_with_len m n))
  spans_from zero m end e none = λ k from. by k from (nat_lt k m) refl
    where
      by : (k : ℕ) → end ≤ k → (b : Bool) → nat_lt k m ≡ b → stands_at cs (c ∷ part) k ≡ false
      by k from true t = none k from (grind (arith, nat_tests))
      by k from false t = stands_past cs c part k (grind (arith, nat_tests))
  spans_from (suc n) m end e none = by (is_next cs (c ∷ part) end m) refl (λ next none. spans_from n (m + 1) next (omega (arith, e)) none)
    where
      before : (k : ℕ) → end ≤ k → k < m + 1 → is_next cs (c ∷ part) end m ≡ false → (b : Bool) → nat_lt k m ≡ b → stands_at cs (c ∷ part) k ≡ false
      before k from to never true t = none k from (grind (arith, nat_tests))
      before k from to never false t =
          let last : k ≡ m = grind (arith, nat_tests) in
          let reached : nat_le end m ≡ true = grind (arith, nat_tests) in
          ap (stands_at cs (c ∷ part)) last ∙ second_false (nat_le end m) (stands_at cs (c ∷ part) m) reached never

      by : (b : Bool) → is_next cs (c ∷ part) end m ≡ b
          → ((next : ℕ) → ((k : ℕ) → next ≤ k → k < m + 1 → stands_at cs (c ∷ part) k ≡ false) → AreFromLeft cs (c ∷ part) next (spans_among cs (c ∷ part) next (range_with_len (m + 1) n)))
          → AreFromLeft cs (c ∷ part) end
          (if b then (m, m + length (c ∷ part)) ∷ spans_among cs (c ∷ part) (m + length (c ∷ part)) (range_with_len (m + 1) n) else spans_among cs (c ∷ part) end (range_with_len (m + 1) n))
      by true next rec =
          let both = and_parts (nat_le end m) (stands_at cs (c ∷ part) m) next in
          let first = both.0 in
          let reached : end ≤ m = grind (arith, nat_tests) in
          (reached, none, both.1, refl, rec (m + length (c ∷ part)) (λ k from to. absurd (omega (arith, from, to))))
      by false next rec = rec end (λ k from to. before k from to next (nat_lt k m) refl)

  pub are_from_left : AreFromLeft cs (c ∷ part) 0 (separators cs (c ∷ part))
  are_from_left = spans_from (suc (length cs)) 0 0 (omega arith) (λ k from to. absurd (omega (arith, to)))

-- ---- the list is unique

not_before : (cs part : List ℕ) (from a b : ℕ) → from ≤ a → stands_at cs part a ≡ true → ((k : ℕ) → from ≤ k → k < b → stands_at cs part k ≡ false) → nat_lt a b ≡ false
not_before cs part from a b reached here none = by (nat_lt a b) refl
  where
    by : (t : Bool) → nat_lt a b ≡ t → t ≡ false
    by false e = refl
    by true e = let never = none a reached (grind (arith, nat_tests)) in cc

same_offset : (a b : ℕ) → nat_lt a b ≡ false → nat_lt b a ≡ false → a ≡ b
same_offset a b h g = grind (arith, nat_tests)

pub one_from_left : (cs part : List ℕ) (from : ℕ) (ps qs : List (ℕ × ℕ)) → AreFromLeft cs part from ps → AreFromLeft cs part from qs → ps ≡ qs
one_from_left cs part from [] [] h g = refl
one_from_left cs part from [] (q ∷ qs) h g = let never = h q.0 g.0 in let here = g.2 in cc
one_from_left cs part from (p ∷ ps) [] h g = let never = g p.0 h.0 in let here = h.2 in cc
one_from_left cs part from (p ∷ ps) (q ∷ qs) h g =
    let starts : p.0 ≡ q.0 = same_offset p.0 q.0 (not_before cs part from p.0 q.0 h.0 h.2 g.1) (not_before cs part from q.0 p.0 g.0 g.2 h.1) in
    let ends : p.1 ≡ q.1 = h.3 ∙ ap (λ k. k + length part) starts ∙ sym g.3 in
    let rest = one_from_left cs part p.1 ps qs h.4 (subst (λ n. AreFromLeft cs part n qs) (sym ends) g.4) in
    (λ i. (starts i, ends i) ∷ rest i)

-- ---- an empty part occurs once at each boundary

empties : (cs : List ℕ) (n m end : ℕ) → end ≤ m → spans_among cs [] end (range_with_len m n) ≡ map (λ k. (k, k)) (range_with_len m n)
empties cs zero m end reached = refl
empties cs (suc n) m end reached =
    let here : nat_le end m ≡ true = grind (arith, nat_tests) in
    let none : m + 0 ≡ m = omega arith in
    ap (λ b. if b && stands_at cs [] m then (m, m + 0) ∷ spans_among cs [] (m + 0) (range_with_len (m + 1) n) else spans_among cs [] end (range_with_len (m + 1) n)) here
    ∙ (λ i. (m, none i) ∷ empties cs n (m + 1) (m + 0) (omega arith) i)

pub empty_separators : (cs : List ℕ) → separators cs [] ≡ map (λ k. (k, k)) (range_with_len 0 (suc (length cs)))
empty_separators cs = empties cs (suc (length cs)) 0 0 (omega arith)
