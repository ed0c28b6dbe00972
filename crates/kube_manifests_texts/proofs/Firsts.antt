-- Positions of first elements, and lists in which versions are found by them.
use Rattle.std.proofs.Common.{◌≡◌, ◌+◌, ◌<◌, ◌≤◌, ℕ, zero, suc, List, [], ◌∷◌, ◌++◌, length, map, drop, drop-cons, get_or, add-one, arith, cond, Bool, true, false, ◌||◌, Option, Some, None, Bor, option_map, option_and_then, refl, sym, ap, ◌∙◌, if◌then◌else◌}
use Rattle.std.specs.List.{find, list_any, slice_get}
use Rattle.std.specs.Option.{is_some, option_or}
use Rattle.std.specs.Slice.{IsItemAt}
use Rattle.kube_manifests_texts.specs.Positions.{first_at}

alone : (b : Bool) → (if b then Some 0 else option_map suc None) ≡ (if b then Some 0 else None)
alone true = refl
alone false = refl

later : (b : Bool) (n : ℕ) (o : Option ℕ) → option_map suc (option_or o (if b then Some n else None)) ≡ option_or (option_map suc o) (if b then Some (suc n) else None)
later true n None = refl
later false n None = refl
later b n (Some i) = refl

module _ {A : Type 0} where
  -- ---- the element, and whether there is one

  here : (p : A → Bool) (x : A) (xs : List A) (b : Bool) → find p xs ≡ option_and_then (slice_get xs) (first_at p xs)
      → cond b (Some x) (find p xs) ≡ option_and_then (slice_get (x ∷ xs)) (if b then Some 0 else option_map suc (first_at p xs))
  here p x xs true e = refl
  here p x xs false e = e ∙ moved (first_at p xs)
    where
      moved : (o : Option ℕ) → option_and_then (slice_get xs) o ≡ option_and_then (slice_get (x ∷ xs)) (option_map suc o)
      moved None = refl
      moved (Some i) = refl

  pub found_at_first : (p : A → Bool) (xs : List A) → find p xs ≡ option_and_then (slice_get xs) (first_at p xs)
  found_at_first p [] = refl
  found_at_first p (x ∷ xs) = here p x xs (p x) (found_at_first p xs)

  any_here : (p : A → Bool) (xs : List A) (b : Bool) → list_any p xs ≡ is_some (first_at p xs)
      → (b || list_any p xs) ≡ is_some (if b then Some 0 else option_map suc (first_at p xs))
  any_here p xs true e = refl
  any_here p xs false e = e ∙ moved (first_at p xs)
    where
      moved : (o : Option ℕ) → is_some o ≡ is_some (option_map suc o)
      moved None = refl
      moved (Some i) = refl

  pub any_at_first : (p : A → Bool) (xs : List A) → list_any p xs ≡ is_some (first_at p xs)
  any_at_first p [] = refl
  any_at_first p (x ∷ xs) = any_here p xs (p x) (any_at_first p xs)

  -- ---- one more element

  more : (p : A → Bool) (y : A) (xs : List A) (x : A) (b : Bool)
      → first_at p (xs ++ x ∷ []) ≡ option_or (first_at p xs) (if p x then Some (length xs) else None)
      → (if b then Some 0 else option_map suc (first_at p (xs ++ x ∷ [])))
      ≡ option_or (if b then Some 0 else option_map suc (first_at p xs)) (if p x then Some (suc (length xs)) else None)
  more p y xs x true e = refl
  more p y xs x false e = ap (option_map suc) e ∙ later (p x) (length xs) (first_at p xs)

  pub first_more : (p : A → Bool) (xs : List A) (x : A) → first_at p (xs ++ x ∷ []) ≡ option_or (first_at p xs) (if p x then Some (length xs) else None)
  first_more p [] x = alone (p x)
  first_more p (y ∷ xs) x = more p y xs x (p y) (first_more p xs x)

-- ---- positions counted from an index on

abbrev pub from_on : ℕ → Option ℕ → Option ℕ
from_on n o = option_map (λ i. n + i) o

pub from_start : (o : Option ℕ) → o ≡ from_on 0 o
from_start None = refl
from_start (Some i) = let same : i ≡ 0 + i = omega arith in ap Some same

shifted : (n : ℕ) (o : Option ℕ) → from_on n (option_map suc o) ≡ from_on (n + 1) o
shifted n None = refl
shifted n (Some i) = let same : n + suc i ≡ n + 1 + i = omega arith in ap Some same

module _ {A B : Type 0} (f : A → B) (p : B → Bool) (xs : List A) (n : ℕ) (x : A) (below : n < length xs) (is : x ≡ get_or xs n x) where
  split : map f (drop n xs) ≡ f x ∷ map f (drop (n + 1) xs)
  split = ap (map f) (drop-cons xs n x below ∙ (λ j. sym is j ∷ drop (sym (add-one n) j) xs))

  -- the element doesn't pass
  pub on_miss : p (f x) ≡ false → from_on n (first_at p (map f (drop n xs))) ≡ from_on (n + 1) (first_at p (map f (drop (n + 1) xs)))
  on_miss e =
      ap (λ ys. from_on n (first_at p ys)) split
      ∙ ap (λ b. from_on n (if b then Some 0 else option_map suc (first_at p (map f (drop (n + 1) xs))))) e
      ∙ shifted n (first_at p (map f (drop (n + 1) xs)))

  -- it passes
  pub on_hit : p (f x) ≡ true → from_on n (first_at p (map f (drop n xs))) ≡ Some n
  on_hit e =
      ap (λ ys. from_on n (first_at p ys)) split
      ∙ ap (λ b. from_on n (if b then Some 0 else option_map suc (first_at p (map f (drop (n + 1) xs))))) e
      ∙ (let same : n + 0 ≡ n = omega arith in ap Some same)

-- the first position after one more element
pub first_after : {A : Type 0} (p : A → Bool) (xs : List A) (x : A) (old new : Option ℕ) (n : ℕ) → old ≡ first_at p xs → n ≡ length xs
    → new ≡ option_or old (if p x then Some n else None) → new ≡ first_at p (xs ++ x ∷ [])
first_after p xs x old new n is long e =
    e ∙ ap (λ o. option_or o (if p x then Some n else None)) is ∙ ap (λ m. option_or (first_at p xs) (if p x then Some m else None)) long
    ∙ sym (first_more p xs x)

-- ---- what a slice lends at a position

module _ {A B : Type 0} (f : A → B) where
  at_past : (xs : List A) (n : ℕ) → length xs ≤ n → slice_get (map f xs) n ≡ None
  at_past [] n h = refl
  at_past (x ∷ xs) zero h = absurd (omega arith)
  at_past (x ∷ xs) (suc n) h = at_past xs n (omega arith)

  at_here : (xs : List A) (n : ℕ) (x : A) → n < length xs → x ≡ get_or xs n x → slice_get (map f xs) n ≡ Some (f x)
  at_here [] n x below is = absurd (omega arith)
  at_here (y ∷ xs) zero x below is = ap (λ z. Some (f z)) (sym is)
  at_here (y ∷ xs) (suc n) x below is = at_here xs n x (omega arith) is

  pub lent_at : (xs : List A) (n : ℕ) (r : Option (Bor A)) → IsItemAt xs n r → option_map (λ v. f v.now) r ≡ slice_get (map f xs) n
  lent_at xs n None h = sym (at_past xs n h.3)
  lent_at xs n (Some x) h = sym (at_here xs n x.now h.3.0 h.1)
