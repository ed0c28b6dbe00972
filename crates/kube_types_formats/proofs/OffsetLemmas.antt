-- The offset of the last mark, searched from the end, and of the first.
use Rattle.std.proofs.Common.{◌≡◌, ℕ, zero, suc, ◌+◌, ◌<◌, ◌≤◌, Bool, true, false, cond, ltb, List, [], ◌∷◌, length, get_or, drop, Some, None, refl, ap, ◌∙◌, add-one, drop-cons, length-drop, position, arith}
use Rattle.std.proofs.lemmas.Bool.Decides.{nat_tests}
use Rattle.std.proofs.lemmas.List.{at_drop_all}
use Rattle.std.specs.List.{position_or_len}
use Rattle.kube_types_formats.specs.Offsets.{is_one_of, later_or_first, last_offset}

pub last_offset_step : (marks text : List ℕ) (i : ℕ) → i < length text → last_offset marks (drop i text) ≡ later_or_first (last_offset marks (drop (i + 1) text)) (is_one_of marks (get_or text i 0))
unfolding last_offset
last_offset_step marks text i h = rw add-one (ap (last_offset marks) (drop-cons text i 0 h))

-- there is no mark from here on
pub last_offset_more : (marks text : List ℕ) (i : ℕ) → i < length text → last_offset marks (drop (i + 1) text) ≡ None → is_one_of marks (get_or text i 0) ≡ false → last_offset marks (drop i text) ≡ None
last_offset_more marks text i h none absent =
    last_offset_step marks text i h ∙ (λ k. later_or_first (none k) (absent k))

pub last_offset_from : (marks text : List ℕ) (i k : ℕ) → last_offset marks (drop i text) ≡ Some k → last_offset marks text ≡ Some (i + k)
unfolding last_offset
last_offset_from marks text zero k e = e ∙ ap Some (omega arith)
last_offset_from marks [] (suc i) k e = cc
last_offset_from marks (c ∷ cs) (suc i) k e =
    ap (λ found. later_or_first found (is_one_of marks c)) (last_offset_from marks cs i k e) ∙ ap Some (omega arith)

pub last_offset_end : (marks text : List ℕ) (i : ℕ) → length text ≤ i → last_offset marks (drop i text) ≡ None
unfolding last_offset
last_offset_end marks text i h = at_drop_all (last_offset marks) text i h

-- there is a mark here, and none later
pub last_offset_here : (marks text : List ℕ) (i : ℕ) → i < length text → last_offset marks (drop (i + 1) text) ≡ None → is_one_of marks (get_or text i 0) ≡ true → last_offset marks text ≡ Some i
last_offset_here marks text i h none here =
    last_offset_from marks text i 0 (last_offset_step marks text i h ∙ (λ k. later_or_first (none k) (here k))) ∙ ap Some (omega arith)

-- the result of `position`
pub position_is : (p : ℕ → Bool) (text : List ℕ) (i : ℕ) → position p text ≡ Some i → (position_or_len p text ≡ i) × (i < length text)
position_is p text i e = by_test (position_or_len p text) (length text) i (ltb (position_or_len p text) (length text)) refl e
  where
    by_test : (n len i : ℕ) (b : Bool) → ltb n len ≡ b → cond b (Some n) None ≡ Some i → (n ≡ i) × (i < len)
    by_test n len i true t e = let same : n ≡ i = cc in let below : n < len = grind (arith, nat_tests) in (same, omega arith)
    by_test n len i false t e = cc

pub position_none : (p : ℕ → Bool) (text : List ℕ) → position p text ≡ None → length text ≤ position_or_len p text
position_none p text e = by_test (position_or_len p text) (length text) (ltb (position_or_len p text) (length text)) refl e
  where
    by_test : (n len : ℕ) (b : Bool) → ltb n len ≡ b → cond b (Some n) None ≡ None → len ≤ n
    by_test n len true t e = absurd (some≢none e)
      where
        some≢none : {n : ℕ} → Some n ≡ None → ⊥
        some≢none e = cc
    by_test n len false t e = grind (arith, nat_tests)

pub rest_is_shorter : (text : List ℕ) (i : ℕ) → i < length text → length (drop (i + 1) text) < length text
rest_is_shorter text i h = simp length-drop (omega arith)
