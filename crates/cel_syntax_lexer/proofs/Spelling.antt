-- The longest spelling of a whole, from those of its parts.
use Rattle.std.proofs.Common.{◌≡◌, ℕ, suc, zero, ◌+◌, ◌-◌, ◌<◌, ◌≤◌, refl, sym, ◌∙◌, ap, subst, arith, Bool, true, false, List, [], ◌∷◌, take, drop, cond, length, ◌||◌, ◌⊎◌, inl, inr, one-add, length-drop}
use Rattle.std.specs.Prelude.{nat_eq, max}
use Rattle.std.specs.List.{prefix_len}
use Rattle.std.proofs.lemmas.Bool.{eqb-true}
use Rattle.std.proofs.lemmas.List.Sums.{prefix_len-le-length}
use Rattle.cel_syntax_lexer.specs.Spelling.{is_end, begins, one_then, some_then, LongestSpelling, longer}

pub or_right : (a : Bool) → (a || true) ≡ true
or_right true = refl
or_right false = refl

pub or_end : (a : Bool) → (a || false) ≡ a
or_end true = refl
or_end false = refl

pub true_not_false : {a : Bool} → a ≡ true → a ≡ false → ⊥
true_not_false e h = let no : true ≡ false = sym e ∙ h in cc

-- a byte of the class differs from any outside it
pub class_is_not : (p : ℕ → Bool) (v b : ℕ) → p v ≡ false → p b ≡ true → nat_eq b v ≡ false
class_is_not p v b other is = go (nat_eq b v) refl
  where
    go : (t : Bool) → nat_eq b v ≡ t → t ≡ false
    go true e = absurd (true_not_false (subst (λ x. p x ≡ true) (eqb-true b v e) is) other)
    go false e = refl

-- ---- the end, and one of two bytes

pub longest_end : (z : List ℕ) → LongestSpelling is_end z 0
longest_end z = record { fits = omega arith; is_one = λ h. absurd (omega arith); none_longer = λ k h w. go z k h w }
  where
    go : (z : List ℕ) (k : ℕ) → 0 < k → k ≤ length z → is_end (take k z) ≡ false
    go [] k h w = absurd (omega arith)
    go (b ∷ z) zero h w = absurd (omega arith)
    go (b ∷ z) (suc k) h w = refl

le_or : (m n : ℕ) → (m ≤ n) ⊎ (n ≤ m)
le_or zero n = inl (omega arith)
le_or (suc m) zero = inr (omega arith)
le_or (suc m) (suc n) = elim (le_or m n) [ inl h ↦ inl (omega arith) | inr h ↦ inr (omega arith) ]

pub longest_either : (p q : List ℕ → Bool) (z : List ℕ) (m n : ℕ) → LongestSpelling p z m → LongestSpelling q z n → LongestSpelling (λ y. p y || q y) z (max m n)
longest_either p q z m n a b = elim (le_or m n) [
  | inl h ↦ let e : max m n ≡ n = omega arith in subst (λ i. LongestSpelling (λ y. p y || q y) z i) (sym e) (second h)
  | inr h ↦ let e : max m n ≡ m = omega arith in subst (λ i. LongestSpelling (λ y. p y || q y) z i) (sym e) (first h)
]
  where
    neither : (k : ℕ) → m < k → n < k → k ≤ length z → (p (take k z) || q (take k z)) ≡ false
    neither k h i w = rw (a.none_longer k h w, b.none_longer k i w)

    first : n ≤ m → LongestSpelling (λ y. p y || q y) z m
    first h = record { fits = a.fits; is_one = λ some. rw (a.is_one some); none_longer = λ k i w. neither k i (omega arith) w }

    second : m ≤ n → LongestSpelling (λ y. p y || q y) z n
    second h = record { fits = b.fits; is_one = λ some. rw (b.is_one some) (or_right _); none_longer = λ k i w. neither k (omega arith) i w }

-- ---- one byte, then the rest

suc_is_not_zero : (n : ℕ) → nat_eq (suc n) 0 ≡ false
suc_is_not_zero n = go (nat_eq (suc n) 0) refl
  where
    go : (t : Bool) → nat_eq (suc n) 0 ≡ t → t ≡ false
    go true e = let same : suc n ≡ 0 = eqb-true (suc n) 0 e in absurd (omega arith)
    go false e = refl

module _ (p : ℕ → Bool) (q : List ℕ → Bool) where
  pub longest_no_one : (z : List ℕ) → begins p z ≡ false → LongestSpelling (one_then p q) z 0
  longest_no_one z e = record { fits = omega arith; is_one = λ h. absurd (omega arith); none_longer = λ k h w. go z k e h w }
    where
      go : (z : List ℕ) (k : ℕ) → begins p z ≡ false → 0 < k → k ≤ length z → one_then p q (take k z) ≡ false
      go [] k e h w = absurd (omega arith)
      go (b ∷ z) zero e h w = absurd (omega arith)
      go (b ∷ z) (suc k) e h w = rw e

  -- if the rest may be empty, so that one byte is a spelling
  pub longest_one : (z : List ℕ) (n : ℕ) → begins p z ≡ true → q [] ≡ true → LongestSpelling q (drop 1 z) n → LongestSpelling (one_then p q) z (1 + n)
  longest_one [] n e end r = absurd (cc)
  longest_one (b ∷ z) n e end r = rw one-add (record {
    fits = let f = r.fits in omega arith;
    is_one = λ h. rw e (is_rest n r.is_one);
    none_longer = λ k h w. longer_ones k h w;
  })
    where
      is_rest : (n : ℕ) → (0 < n → q (take n z) ≡ true) → q (take n z) ≡ true
      is_rest zero h = end
      is_rest (suc n) h = h (omega arith)

      longer_ones : (k : ℕ) → suc n < k → k ≤ length (b ∷ z) → one_then p q (take k (b ∷ z)) ≡ false
      longer_ones zero h w = absurd (omega arith)
      longer_ones (suc k) h w = rw (e, r.none_longer k (omega arith) (omega arith))

  -- if the rest isn't empty
  pub longest_one_and_more : (z : List ℕ) (n : ℕ) → begins p z ≡ true → q [] ≡ false → LongestSpelling q (drop 1 z) n → LongestSpelling (one_then p q) z (longer n)
  longest_one_and_more [] n e end r = absurd (cc)
  longest_one_and_more (b ∷ z) zero e end r = record { fits = omega arith; is_one = λ h. absurd (omega arith); none_longer = λ k h w. none k h w }
    where
      none : (k : ℕ) → 0 < k → k ≤ length (b ∷ z) → one_then p q (take k (b ∷ z)) ≡ false
      none zero h w = absurd (omega arith)
      none (suc zero) h w = rw (e, end)
      none (suc (suc k)) h w = rw (e, r.none_longer (suc k) (omega arith) (omega arith))
  longest_one_and_more (b ∷ z) (suc n) e end r = rw (one-add, suc_is_not_zero n) (record {
    fits = let f = r.fits in omega arith;
    is_one = λ h. rw (e, r.is_one (omega arith));
    none_longer = λ k h w. longer_ones k h w;
  })
    where
      longer_ones : (k : ℕ) → suc (suc n) < k → k ≤ length (b ∷ z) → one_then p q (take k (b ∷ z)) ≡ false
      longer_ones zero h w = absurd (omega arith)
      longer_ones (suc k) h w = rw (e, r.none_longer k (omega arith) (omega arith))

-- ---- some bytes, then what begins with none of them

module _ (p : ℕ → Bool) (q : List ℕ → Bool) where
  no_some : (z : List ℕ) (k : ℕ) → prefix_len p z ≡ 0 → some_then p q (take k z) ≡ false
  unfolding some_then
  no_some [] zero e = refl
  no_some [] (suc k) e = refl
  no_some (b ∷ z) zero e = refl
  no_some (b ∷ z) (suc k) e = go (p b) refl e
    where
      go : (t : Bool) → p b ≡ t → cond t (1 + prefix_len p z) 0 ≡ 0 → some_then p q (take (suc k) (b ∷ z)) ≡ false
      go true is e = absurd (omega arith)
      go false is e = rw is

  pub longest_no_some : (z : List ℕ) → prefix_len p z ≡ 0 → LongestSpelling (some_then p q) z 0
  longest_no_some z e = record { fits = omega arith; is_one = λ h. absurd (omega arith); none_longer = λ k h w. no_some z k e }

  module _ (rejects : (b : ℕ) (z : List ℕ) → p b ≡ true → q (b ∷ z) ≡ false) (end : q [] ≡ true) where
    rejects_some : (z : List ℕ) (k : ℕ) → 0 < prefix_len p z → 0 < k → q (take k z) ≡ false
    rejects_some [] k some h = absurd (omega arith)
    rejects_some (b ∷ z) zero some h = absurd (omega arith)
    rejects_some (b ∷ z) (suc k) some h = go (p b) refl some
      where
        go : (t : Bool) → p b ≡ t → 0 < cond t (1 + prefix_len p z) 0 → q (b ∷ take k z) ≡ false
        go true is some = rejects b (take k z) is
        go false is some = absurd (omega arith)

    -- the first run is the whole first part
    some_run : (z : List ℕ) (k : ℕ) → 0 < prefix_len p z → some_then p q (take (prefix_len p z + k) z) ≡ q (take k (drop (prefix_len p z) z))
    unfolding some_then
    some_run [] k some = absurd (omega arith)
    some_run (b ∷ z) k some = go (p b) refl some (λ h. some_run z k h)
      where
        goes_on : (n : ℕ) → prefix_len p z ≡ n → (0 < prefix_len p z → some_then p q (take (prefix_len p z + k) z) ≡ q (take k (drop (prefix_len p z) z)))
            → (q (take (n + k) z) || some_then p q (take (n + k) z)) ≡ q (take k (drop n z))
        goes_on zero e again =
            let all : zero + k ≡ k = omega arith in
            rw (all, no_some z k e) (or_end (q (take k z)))
        goes_on (suc n) e again =
            let here : q (take (suc n + k) z) ≡ false = rejects_some z (suc n + k) (omega arith) (omega arith) in
            rw here (subst (λ i. some_then p q (take (i + k) z) ≡ q (take k (drop i z))) e (again (omega arith)))

        go : (t : Bool) → p b ≡ t → 0 < cond t (1 + prefix_len p z) 0 → (0 < prefix_len p z → some_then p q (take (prefix_len p z + k) z) ≡ q (take k (drop (prefix_len p z) z)))
            → some_then p q (take (cond t (1 + prefix_len p z) 0 + k) (b ∷ z)) ≡ q (take k (drop (cond t (1 + prefix_len p z) 0) (b ∷ z)))
        go true is some again =
            let one : 1 + prefix_len p z ≡ suc (prefix_len p z) = omega arith in
            let all : suc (prefix_len p z) + k ≡ suc (prefix_len p z + k) = omega arith in
            rw (one, all, is) (goes_on (prefix_len p z) refl again)
        go false is some again = absurd (omega arith)

    pub longest_some : (z : List ℕ) (n : ℕ) → 0 < prefix_len p z → LongestSpelling q (drop (prefix_len p z) z) n → LongestSpelling (some_then p q) z (prefix_len p z + n)
    longest_some z n some r = record {
      fits = let f = r.fits in omega (arith, prefix_len-le-length p z, length-drop (prefix_len p z) z);
      is_one = λ h. some_run z n some ∙ is_rest n r.is_one;
      none_longer = λ k h w.
          let more : k ≡ prefix_len p z + (k - prefix_len p z) = omega arith in
          ap (λ i. some_then p q (take i z)) more ∙ some_run z (k - prefix_len p z) some
          ∙ r.none_longer (k - prefix_len p z) (omega arith) (omega (arith, prefix_len-le-length p z, length-drop (prefix_len p z) z));
    }
      where
        is_rest : (n : ℕ) → (0 < n → q (take n (drop (prefix_len p z) z)) ≡ true) → q (take n (drop (prefix_len p z) z)) ≡ true
        is_rest zero h = end
        is_rest (suc n) h = h (omega arith)
