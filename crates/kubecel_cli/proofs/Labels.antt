-- Places of the first entries that pass a test.
use Rattle.std.proofs.Common.{arith, ◌≡◌, ◌+◌, ℕ, suc, List, [], ◌∷◌, length, cond, not, Bool, true, false, Option, Some, None, option_map, refl, sym, ap, ◌∙◌, if◌then◌else◌}
use Rattle.std.specs.List.{position_or_len}
use Rattle.kube_manifests.specs.Positions.{first_at}

-- the place, or another number if there is none
abbrev pub place_or : Option ℕ → ℕ → ℕ
place_or None n = n
place_or (Some i) n = i

moved : (o : Option ℕ) (n : ℕ) → 1 + place_or o n ≡ place_or (option_map suc o) (suc n)
moved None n = omega arith
moved (Some i) n = omega arith

module _ {A : Type 0} (p : A → Bool) where
  here : (x : A) (xs : List A) (b : Bool) → position_or_len p xs ≡ place_or (first_at p xs) (length xs)
      → cond (not b) (1 + position_or_len p xs) 0 ≡ place_or (if b then Some 0 else option_map suc (first_at p xs)) (suc (length xs))
  here x xs true e = refl
  here x xs false e = ap (λ n. 1 + n) e ∙ moved (first_at p xs) (length xs)

  pub counted : (xs : List A) → position_or_len p xs ≡ place_or (first_at p xs) (length xs)
  counted [] = refl
  counted (x ∷ xs) = here x xs (p x) (counted xs)
