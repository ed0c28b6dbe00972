-- The number of bytes of a class at the front of a list.
use Rattle.std.proofs.Common.{◌≡◌, ℕ, suc, zero, ◌+◌, ◌<◌, ◌≤◌, refl, arith, Bool, true, false, List, [], ◌∷◌, take, cond, length, one-add}
use Rattle.std.specs.List.{list_all, prefix_len}

pub all_front : (p : ℕ → Bool) (z : List ℕ) → list_all p (take (prefix_len p z) z) ≡ true
all_front p [] = refl
all_front p (b ∷ z) = go (p b) refl (all_front p z)
  where
    go : (t : Bool) → p b ≡ t → list_all p (take (prefix_len p z) z) ≡ true → list_all p (take (cond t (1 + prefix_len p z) 0) (b ∷ z)) ≡ true
    go true e h = rw one-add (rw e h)
    go false e h = refl

pub all_longer : (p : ℕ → Bool) (z : List ℕ) (k : ℕ) → prefix_len p z < k → k ≤ length z → list_all p (take k z) ≡ false
all_longer p [] k h w = absurd (omega arith)
all_longer p (b ∷ z) zero h w = absurd (omega arith)
all_longer p (b ∷ z) (suc k) h w = go (p b) refl h (λ h. all_longer p z k h (omega arith))
  where
    go : (t : Bool) → p b ≡ t → cond t (1 + prefix_len p z) 0 < suc k → (prefix_len p z < k → list_all p (take k z) ≡ false) → list_all p (take (suc k) (b ∷ z)) ≡ false
    go true e h again = rw e (again (omega arith))
    go false e h again = rw e
