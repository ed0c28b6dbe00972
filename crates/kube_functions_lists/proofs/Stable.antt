-- A list has exactly one stable ascending order by a test.
use Rattle.std.proofs.Common.{◌≡◌, ℕ, zero, suc, ◌+◌, List, [], ◌∷◌, map, ◌&&◌, not, Bool, true, false, cond, get_or, subst, refl, ap, sym, ◌∙◌, arith}
use Rattle.std.specs.Bool.{⊤}
use Rattle.std.specs.Cmp.{IsStrictWeakOrder}
use Rattle.std.specs.List.{list_all, filter}
use Rattle.std.specs.List.Sorted.{IsSortedBy, IsStableBy, ties}
use Rattle.kube_functions_lists.specs.Orders.{put_by, sorted_by}

pub both : (a b : Bool) → (a && b) ≡ true → (a ≡ true) × (b ≡ true)
both true true e = (refl, refl)
both true false e = absurd (cc)
both false b e = absurd (cc)

pub and_true : (a b : Bool) → a ≡ true → b ≡ true → (a && b) ≡ true
and_true a b h k = rw (h, k)

not_true : (b : Bool) → b ≡ false → not b ≡ true
not_true b h = ap not h

from_not : (b : Bool) → not b ≡ true → b ≡ false
from_not true h = absurd (cc)
from_not false h = refl

pub pass : {X : Type 0} (p q : X → Bool) → ((x : X) → p x ≡ true → q x ≡ true) → (xs : List X) → list_all p xs ≡ true → list_all q xs ≡ true
pass p q f [] h = refl
pass p q f (x ∷ xs) h = let a = both (p x) (list_all p xs) h in and_true _ _ (f x a.0) (pass p q f xs a.1)

abbrev head_of : {X : Type 0} → X → List X → X
head_of d [] = d
head_of d (x ∷ xs) = x

abbrev tail_of : {X : Type 0} → List X → List X
tail_of [] = []
tail_of (x ∷ xs) = xs

filter_none : {X : Type 0} (p : X → Bool) (xs : List X) → list_all (λ x. not (p x)) xs ≡ true → filter p xs ≡ []
filter_none p [] h = refl
filter_none p (x ∷ xs) h = let a = both (not (p x)) (list_all (λ y. not (p y)) xs) h in rw (from_not (p x) a.0) (filter_none p xs a.1)

module _ {X : Type 0} (lt : X → X → Bool) where
  all_cond : (p : X → Bool) (b : Bool) (x y : X) (ys : List X) → p x ≡ true → (p y && list_all p ys) ≡ true → list_all p (put_by lt x ys) ≡ true → list_all p (cond b (y ∷ put_by lt x ys) (x ∷ y ∷ ys)) ≡ true
  all_cond p true x y ys h k r = and_true _ _ (both (p y) (list_all p ys) k).0 r
  all_cond p false x y ys h k r = and_true _ _ h k

  pub all_put : (p : X → Bool) (x : X) (ys : List X) → p x ≡ true → list_all p ys ≡ true → list_all p (put_by lt x ys) ≡ true
  all_put p x [] h k = and_true _ _ h refl
  all_put p x (y ∷ ys) h k = all_cond p (lt y x) x y ys h k (all_put p x ys h (both (p y) (list_all p ys) k).1)

  pub all_sorted : (p : X → Bool) (xs : List X) → list_all p xs ≡ true → list_all p (sorted_by lt xs) ≡ true
  all_sorted p [] h = refl
  all_sorted p (x ∷ xs) h = let a = both (p x) (list_all p xs) h in all_put p x (sorted_by lt xs) a.0 (all_sorted p xs a.1)

module _ {X : Type 0} (lt : X → X → Bool) (o : IsStrictWeakOrder lt) where
  irrefl : (x : X) → lt x x ≡ false
  irrefl x = at (lt x x) refl
    where
      at : (b : Bool) → lt x x ≡ b → lt x x ≡ false
      at true h = o.one_way x x h
      at false h = h

  ties_itself : (x : X) → ties lt x x ≡ true
  ties_itself x = and_true _ _ (not_true _ (irrefl x)) (not_true _ (irrefl x))

  -- no value comes before one to its left
  abbrev Rises : List X → Type 0
  Rises [] = ⊤
  Rises (x ∷ xs) = (list_all (λ y. not (lt y x)) xs ≡ true) × Rises xs

  rises_cond : (b : Bool) (x y : X) (ys : List X) → lt y x ≡ b → Rises (y ∷ ys) → Rises (put_by lt x ys) → Rises (cond b (y ∷ put_by lt x ys) (x ∷ y ∷ ys))
  rises_cond true x y ys e r s = (all_put lt (λ z. not (lt z y)) x ys (not_true _ (o.one_way y x e)) r.0, s)
  rises_cond false x y ys e r s = (and_true _ _ (not_true _ e) (pass (λ z. not (lt z y)) (λ z. not (lt z x)) (λ z h. not_true _ (o.chain z y x (from_not _ h) e)) ys r.0), r)

  rises_put : (x : X) (ys : List X) → Rises ys → Rises (put_by lt x ys)
  rises_put x [] r = (refl, tt)
  rises_put x (y ∷ ys) r = rises_cond (lt y x) x y ys refl r (rises_put x ys r.1)

  pub rises_sorted : (xs : List X) → Rises (sorted_by lt xs)
  rises_sorted [] = tt
  rises_sorted (x ∷ xs) = rises_put x (sorted_by lt xs) (rises_sorted xs)

  swapped : (s t : Bool) (x y : X) (f : List X) → (s ≡ true → t ≡ false) → cond s (y ∷ cond t (x ∷ f) f) (cond t (x ∷ f) f) ≡ cond t (x ∷ cond s (y ∷ f) f) (cond s (y ∷ f) f)
  swapped true true x y f h = let no : true ≡ false = h refl in absurd (cc)
  swapped true false x y f h = refl
  swapped false t x y f h = refl

  not_both : (w x y : X) → lt y x ≡ true → ties lt w y ≡ true → ties lt w x ≡ false
  not_both w x y e h = at (ties lt w x) refl
    where
      at : (b : Bool) → ties lt w x ≡ b → ties lt w x ≡ false
      at false k = k
      at true k =
          let a = both (not (lt w y)) (not (lt y w)) h in
          let b = both (not (lt w x)) (not (lt x w)) k in
          let no = o.chain y w x (from_not _ a.1) (from_not _ b.0) in absurd (cc)

  stable_cond : (b : Bool) (w x y : X) (ys : List X) → lt y x ≡ b → filter (ties lt w) (put_by lt x ys) ≡ filter (ties lt w) (x ∷ ys)
      → filter (ties lt w) (cond b (y ∷ put_by lt x ys) (x ∷ y ∷ ys)) ≡ filter (ties lt w) (x ∷ y ∷ ys)
  stable_cond true w x y ys e s =
      ap (λ f. cond (ties lt w y) (y ∷ f) f) s ∙ swapped (ties lt w y) (ties lt w x) x y (filter (ties lt w) ys) (not_both w x y e)
  stable_cond false w x y ys e s = refl

  stable_put : (w x : X) (ys : List X) → filter (ties lt w) (put_by lt x ys) ≡ filter (ties lt w) (x ∷ ys)
  stable_put w x [] = refl
  stable_put w x (y ∷ ys) = stable_cond (lt y x) w x y ys refl (stable_put w x ys)

  pub stable_sorted : (w : X) (xs : List X) → filter (ties lt w) (sorted_by lt xs) ≡ filter (ties lt w) xs
  stable_sorted w [] = refl
  stable_sorted w (x ∷ xs) = stable_put w x (sorted_by lt xs) ∙ ap (λ f. cond (ties lt w x) (x ∷ f) f) (stable_sorted w xs)

  -- a value that comes before all of a list ties with none of it
  none_tied : (y z : X) (zs : List X) → lt y z ≡ true → Rises (z ∷ zs) → filter (ties lt y) (z ∷ zs) ≡ []
  none_tied y z zs e r = filter_none (ties lt y) (z ∷ zs) (pass (λ u. not (lt u z)) (λ u. not (ties lt y u)) untied (z ∷ zs) (and_true _ _ (not_true _ (irrefl z)) r.0))
    where
      untied : (u : X) → not (lt u z) ≡ true → not (ties lt y u) ≡ true
      untied u h = at (ties lt y u) refl
        where
          at : (b : Bool) → ties lt y u ≡ b → not (ties lt y u) ≡ true
          at false k = ap not k
          at true k =
              let a = both (not (lt y u)) (not (lt u y)) k in
              let no = o.chain y u z (from_not _ a.0) (from_not _ h) in absurd (cc)

  kept_first : (y : X) (ys : List X) → filter (ties lt y) (y ∷ ys) ≡ y ∷ filter (ties lt y) ys
  kept_first y ys = rw (ties_itself y) refl

  not_before : (y z : X) (ys zs : List X) → Rises (z ∷ zs) → ((w : X) → filter (ties lt w) (y ∷ ys) ≡ filter (ties lt w) (z ∷ zs)) → lt y z ≡ false
  not_before y z ys zs r h = at (lt y z) refl
    where
      at : (b : Bool) → lt y z ≡ b → lt y z ≡ false
      at false e = e
      at true e = let no : y ∷ filter (ties lt y) ys ≡ [] = sym (kept_first y ys) ∙ h y ∙ none_tied y z zs e r in absurd (cc)

  tail_same : (b : Bool) (y : X) (f g : List X) → cond b (y ∷ f) f ≡ cond b (y ∷ g) g → f ≡ g
  tail_same true y f g h = ap tail_of h
  tail_same false y f g h = h

  module _ (y z : X) (ys zs : List X) (r : Rises (y ∷ ys)) (s : Rises (z ∷ zs)) (h : (w : X) → filter (ties lt w) (y ∷ ys) ≡ filter (ties lt w) (z ∷ zs)) where
    tied : ties lt y z ≡ true
    tied = and_true _ _ (not_true _ (not_before y z ys zs s h)) (not_true _ (not_before z y zs ys r (λ w. sym (h w))))

    heads : y ∷ filter (ties lt y) ys ≡ z ∷ filter (ties lt y) zs
    heads = sym (kept_first y ys) ∙ h y ∙ ap (λ b. cond b (z ∷ filter (ties lt y) zs) (filter (ties lt y) zs)) tied

    same_heads : y ≡ z
    same_heads = ap (head_of y) heads

    tails : (w : X) → filter (ties lt w) ys ≡ filter (ties lt w) zs
    tails w = tail_same (ties lt w y) y (filter (ties lt w) ys) (filter (ties lt w) zs)
        (h w ∙ ap (λ v. cond (ties lt w v) (v ∷ filter (ties lt w) zs) (filter (ties lt w) zs)) (sym same_heads))

  pub one_order : (ys zs : List X) → Rises ys → Rises zs → ((w : X) → filter (ties lt w) ys ≡ filter (ties lt w) zs) → ys ≡ zs
  one_order [] [] r s h = refl
  one_order [] (z ∷ zs) r s h = let no : [] ≡ z ∷ filter (ties lt z) zs = h z ∙ kept_first z zs in absurd (cc)
  one_order (y ∷ ys) [] r s h = let no : y ∷ filter (ties lt y) ys ≡ [] = sym (kept_first y ys) ∙ h y in absurd (cc)
  one_order (y ∷ ys) (z ∷ zs) r s h = let rest = one_order ys zs r.1 s.1 (tails y z ys zs r s h) in (λ i. same_heads y z ys zs r s h i ∷ rest i)

  rises_more : (x y : X) (ys : List X) → lt y x ≡ false → Rises (y ∷ ys) → Rises (x ∷ y ∷ ys)
  rises_more x y ys next rest =
      (and_true _ _ (not_true _ next) (pass (λ z. not (lt z y)) (λ z. not (lt z x)) (λ z h. not_true _ (o.chain z y x (from_not _ h) next)) ys rest.0), rest)

  further : (k : ℕ) → suc k + 1 ≡ suc (k + 1)
  further k = omega arith

  later : (x y : X) (ys : List X) (k : ℕ) (d : X) → lt (get_or (x ∷ y ∷ ys) (suc k + 1) d) (get_or (x ∷ y ∷ ys) (suc k) d) ≡ false → lt (get_or (y ∷ ys) (k + 1) d) (get_or (y ∷ ys) k d) ≡ false
  later x y ys k d h = subst (λ n. lt (get_or (x ∷ y ∷ ys) n d) (get_or (y ∷ ys) k d) ≡ false) (further k) h

  pub rises_from : (xs : List X) → IsSortedBy lt xs → Rises xs
  rises_from [] up = tt
  rises_from (x ∷ []) up = (refl, tt)
  rises_from (x ∷ y ∷ ys) up = rises_more x y ys (up 0 x (omega arith) (omega arith)) (rises_from (y ∷ ys) (λ k d a b. later x y ys k d (up (suc k) d (omega arith) (omega (arith, b)))))

  sooner : (x y : X) (ys : List X) (k : ℕ) (d : X) → lt (get_or (y ∷ ys) (k + 1) d) (get_or (y ∷ ys) k d) ≡ false → lt (get_or (x ∷ y ∷ ys) (suc k + 1) d) (get_or (x ∷ y ∷ ys) (suc k) d) ≡ false
  sooner x y ys k d h = subst (λ n. lt (get_or (x ∷ y ∷ ys) n d) (get_or (y ∷ ys) k d) ≡ false) (sym (further k)) h

  pub sorted_from : (xs : List X) → Rises xs → IsSortedBy lt xs
  sorted_from [] r k d a b = absurd (omega (arith, b))
  sorted_from (x ∷ []) r k d a b = absurd (omega (arith, b))
  sorted_from (x ∷ y ∷ ys) r zero d a b = from_not _ (both (not (lt y x)) _ r.0).0
  sorted_from (x ∷ y ∷ ys) r (suc k) d a b = sooner x y ys k d (sorted_from (y ∷ ys) r.1 k d (omega arith) (omega (arith, b)))

  pub stable_order : (xs ys : List X) → IsSortedBy lt ys → IsStableBy lt xs ys → ys ≡ sorted_by lt xs
  stable_order xs ys up same = one_order ys (sorted_by lt xs) (rises_from ys up) (rises_sorted xs) (λ w. same w ∙ sym (stable_sorted w xs))

-- ---- sorting by a function of the values

cond_map : {X Y : Type 0} (f : X → Y) (b : Bool) (xs ys : List X) → map f (cond b xs ys) ≡ cond b (map f xs) (map f ys)
cond_map f true xs ys = refl
cond_map f false xs ys = refl

module _ {X Y : Type 0} (f : X → Y) (lt : Y → Y → Bool) where
  map_put : (x : X) (xs : List X) → map f (put_by (λ a b. lt (f a) (f b)) x xs) ≡ put_by lt (f x) (map f xs)
  map_put x [] = refl
  map_put x (y ∷ ys) = cond_map f (lt (f y) (f x)) _ _ ∙ ap (λ zs. cond (lt (f y) (f x)) (f y ∷ zs) (f x ∷ f y ∷ map f ys)) (map_put x ys)

  pub map_sorted : (xs : List X) → map f (sorted_by (λ a b. lt (f a) (f b)) xs) ≡ sorted_by lt (map f xs)
  map_sorted [] = refl
  map_sorted (x ∷ xs) = map_put x (sorted_by (λ a b. lt (f a) (f b)) xs) ∙ ap (put_by lt (f x)) (map_sorted xs)

-- ---- two tests that agree

module _ {X : Type 0} (f g : X → X → Bool) (p : X → Bool) (h : (x y : X) → p x ≡ true → p y ≡ true → f x y ≡ g x y) where
  put_agree : (x : X) (ys : List X) → p x ≡ true → list_all p ys ≡ true → put_by f x ys ≡ put_by g x ys
  put_agree x [] a b = refl
  put_agree x (y ∷ ys) a b =
      let c = both (p y) (list_all p ys) b in
      let r = put_agree x ys a c.1 in (λ i. cond (h y x c.0 a i) (y ∷ r i) (x ∷ y ∷ ys))

  pub sorted_agree : (xs : List X) → list_all p xs ≡ true → sorted_by f xs ≡ sorted_by g xs
  sorted_agree [] a = refl
  sorted_agree (x ∷ xs) a =
      let c = both (p x) (list_all p xs) a in
      ap (put_by f x) (sorted_agree xs c.1) ∙ put_agree x (sorted_by g xs) c.0 (all_sorted g p xs c.1)
