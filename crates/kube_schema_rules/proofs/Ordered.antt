-- The computed places are exactly the sequences of allowed steps, each once, in order.
use Rattle.std.proofs.Common.{◌≡◌, ◌≤◌, ◌⊎◌, ℕ, zero, suc, List, [], ◌∷◌, ◌++◌, map, length, Option, Some, None, option_and_then, IsSome, Contains, Ordering, Less, refl, sym, ap, ◌∙◌, subst, inl, inr, arith}
use Rattle.std.proofs.lemmas.Cmp.{tied_itself}
use Rattle.std.specs.List.{flat_map, AllByRecursion}
use Rattle.std.specs.List.Sorted.{IsStrictlySortedBy}
use Rattle.std.specs.Ordering.{ordering_then}
use Rattle.kube_schema_rules.specs.Step.{Step, step_cmp, place_cmp}
use Rattle.kube_schema_rules.specs.Walk.{if_some, leads, places, ArePlaces}
use Rattle.kube_schema_rules.proofs.Steps.{step_total}

-- ---- membership by recursion

abbrev pub IsIn : {X : Type 0} → X → List X → Type 0
IsIn x [] = ⊥
IsIn x (y ∷ ys) = (y ≡ x) ⊎ IsIn x ys

pub Contains-from_in : {X : Type 0} (x : X) (xs : List X) → IsIn x xs → Contains xs x
Contains-from_in x [] h = absurd h
Contains-from_in x (y ∷ ys) (inl e) = (0, omega arith, e)
Contains-from_in x (y ∷ ys) (inr h) = let c = Contains-from_in x ys h in (suc c.0, omega arith, c.2)

pub in_from_Contains : {X : Type 0} (x : X) (xs : List X) → Contains xs x → IsIn x xs
in_from_Contains x [] (k, h, e) = absurd (omega arith)
in_from_Contains x (y ∷ ys) (zero, h, e) = inl e
in_from_Contains x (y ∷ ys) (suc k, h, e) = inr (in_from_Contains x ys (k, omega arith, e))

pub in_left : {X : Type 0} (x : X) (xs ys : List X) → IsIn x xs → IsIn x (xs ++ ys)
in_left x [] ys h = absurd h
in_left x (z ∷ xs) ys (inl e) = inl e
in_left x (z ∷ xs) ys (inr h) = inr (in_left x xs ys h)

pub in_right : {X : Type 0} (x : X) (xs ys : List X) → IsIn x ys → IsIn x (xs ++ ys)
in_right x [] ys h = h
in_right x (z ∷ xs) ys h = inr (in_right x xs ys h)

in_cases : {X : Type 0} (x : X) (xs ys : List X) → IsIn x (xs ++ ys) → IsIn x xs ⊎ IsIn x ys
in_cases x [] ys h = inr h
in_cases x (z ∷ xs) ys (inl e) = inl (inl e)
in_cases x (z ∷ xs) ys (inr h) = elim (in_cases x xs ys h) [ inl a ↦ inl (inr a) | inr b ↦ inr b ]

pub in_flat_map : {X Y : Type 0} (f : X → List Y) (xs : List X) (x : X) (y : Y) → IsIn x xs → IsIn y (f x) → IsIn y (flat_map f xs)
in_flat_map f [] x y h g = absurd h
in_flat_map f (z ∷ xs) x y (inl e) g = in_left y (f z) (flat_map f xs) (subst (λ z. IsIn y (f z)) (sym e) g)
in_flat_map f (z ∷ xs) x y (inr h) g = in_right y (f z) (flat_map f xs) (in_flat_map f xs x y h g)

pub from_flat_map : {X Y : Type 0} (f : X → List Y) (xs : List X) (y : Y) → IsIn y (flat_map f xs) → (x : X) × IsIn x xs × IsIn y (f x)
from_flat_map f [] y h = absurd h
from_flat_map f (z ∷ xs) y h =
    elim (in_cases y (f z) (flat_map f xs) h) [ inl a ↦ (z, inl refl, a) | inr b ↦ (let r = from_flat_map f xs y b in (r.0, inr r.1, r.2)) ]

pub in_map : {X Y : Type 0} (f : X → Y) (x : X) (xs : List X) → IsIn x xs → IsIn (f x) (map f xs)
in_map f x [] h = absurd h
in_map f x (y ∷ xs) (inl e) = inl (ap f e)
in_map f x (y ∷ xs) (inr h) = inr (in_map f x xs h)

in_cons_map : (p : Step) (q : List Step) (ps : List (List Step)) → IsIn q ps → IsIn (p ∷ q) (map (λ r. p ∷ r) ps)
in_cons_map p q [] h = absurd h
in_cons_map p q (r ∷ ps) (inl e) = inl (ap (λ r. p ∷ r) e)
in_cons_map p q (r ∷ ps) (inr h) = inr (in_cons_map p q ps h)

from_cons_map : (p : Step) (q : List Step) (ps : List (List Step)) → IsIn q (map (λ r. p ∷ r) ps) → (r : List Step) × (p ∷ r ≡ q) × IsIn r ps
from_cons_map p q [] h = absurd h
from_cons_map p q (r ∷ ps) (inl e) = (r, e, inl refl)
from_cons_map p q (r ∷ ps) (inr h) = let g = from_cons_map p q ps h in (g.0, g.1, inr g.2)

-- ---- the places

module _ {S : Type 0} (goes : Step → S → Option S) (candidates : S → List Step) where
  -- the places whose first step is p
  abbrev block : ℕ → S → Step → List (List Step)
  block n s p = if_some (λ t. map (λ ps. p ∷ ps) (places goes candidates n t)) (goes p s)

  sound_beyond : (n : ℕ) (s : S) (p : List Step) (q : Step) (o : Option S) → goes q s ≡ o → ((t : S) (r : List Step) → IsIn r (places goes candidates n t) → (length r ≤ n) × IsSome (leads goes r t))
      → IsIn p (if_some (λ t. map (λ ps. q ∷ ps) (places goes candidates n t)) o) → (length p ≤ suc n) × IsSome (leads goes p s)
  unfolding leads
  sound_beyond n s p q None e rec g = absurd g
  sound_beyond n s p q (Some t) e rec g =
      let w = from_cons_map q p (places goes candidates n t) g in
      let k = rec t w.0 w.2 in
      let short : length (w.0) ≤ n = k.0 in
      subst (λ p. (length p ≤ suc n) × IsSome (leads goes p s)) w.1 (omega arith, subst (λ o. IsSome (option_and_then (leads goes w.0) o)) (sym e) k.1)

  -- each computed place is allowed
  pub sound : (n : ℕ) (s : S) (p : List Step) → IsIn p (places goes candidates n s) → (length p ≤ n) × IsSome (leads goes p s)
  unfolding places leads
  sound zero s p (inl e) = subst (λ p. (length p ≤ 0) × IsSome (leads goes p s)) e (omega arith, refl)
  sound zero s p (inr h) = absurd h
  sound (suc n) s p (inl e) = subst (λ p. (length p ≤ suc n) × IsSome (leads goes p s)) e (omega arith, refl)
  sound (suc n) s p (inr h) =
      let r = from_flat_map (block n s) (candidates s) p h in
      sound_beyond n s p r.0 (goes r.0 s) refl (λ t w g. sound n t w g) r.2

  complete_beyond : (n : ℕ) (s : S) (p : List Step) (q : Step) (o : Option S) → goes q s ≡ o → (IsSome (goes q s) → IsIn q (candidates s)) → ((t : S) → IsSome (leads goes p t) → IsIn p (places goes candidates n t))
      → IsSome (option_and_then (leads goes p) o) → IsIn (q ∷ p) (flat_map (block n s) (candidates s))
  complete_beyond n s p q None e all rec g = cc
  complete_beyond n s p q (Some t) e all rec g =
      in_flat_map (block n s) (candidates s) q (q ∷ p) (all (subst IsSome (sym e) refl))
      (subst (λ o. IsIn (q ∷ p) (if_some (λ t. map (λ ps. q ∷ ps) (places goes candidates n t)) o)) (sym e) (in_cons_map q p (places goes candidates n t) (rec t g)))

  -- each allowed place is computed
  pub complete : ((p : Step) (s : S) → IsSome (goes p s) → IsIn p (candidates s)) → (n : ℕ) (s : S) (p : List Step) → length p ≤ n → IsSome (leads goes p s) → IsIn p (places goes candidates n s)
  unfolding places leads
  complete all zero s [] h k = inl refl
  complete all zero s (q ∷ p) h k = absurd (omega arith)
  complete all (suc n) s [] h k = inl refl
  complete all (suc n) s (q ∷ p) h k =
      let short : length p ≤ n = omega arith in
      inr (complete_beyond n s p q (goes q s) refl (all q s) (λ t g. complete all n t p short g) k)

-- ---- their order

pub all_append : {X : Type 0} (P : X → Type 0) (xs ys : List X) → AllByRecursion P xs → AllByRecursion P ys → AllByRecursion P (xs ++ ys)
all_append P [] ys h g = g
all_append P (x ∷ xs) ys h g = (h.0, all_append P xs ys h.1 g)

pub all_map : {X Y : Type 0} (P : X → Type 0) (Q : Y → Type 0) (f : X → Y) (step : (x : X) → P x → Q (f x)) (xs : List X) → AllByRecursion P xs → AllByRecursion Q (map f xs)
all_map P Q f step [] h = tt
all_map P Q f step (x ∷ xs) h = (step x h.0, all_map P Q f step xs h.1)

pub sorted_append : {X : Type 0} (cmp : X → X → Ordering) (xs ys : List X) → IsStrictlySortedBy cmp xs → IsStrictlySortedBy cmp ys → AllByRecursion (λ x. AllByRecursion (λ y. cmp x y ≡ Less) ys) xs → IsStrictlySortedBy cmp (xs ++ ys)
unfolding IsStrictlySortedBy
sorted_append cmp [] ys h g below = g
sorted_append cmp (x ∷ xs) ys h g below = (all_append (λ y. cmp x y ≡ Less) xs ys h.0 below.0, sorted_append cmp xs ys h.1 g below.1)

-- y begins with a step after p
abbrev Above : Step → List Step → Type 0
Above p y = (q : Step) × (r : List Step) × (y ≡ q ∷ r) × (step_cmp p q ≡ Less)

-- y begins with p
abbrev Begins : Step → List Step → Type 0
Begins p y = (r : List Step) × (y ≡ p ∷ r)

begins_map : (p : Step) (ps : List (List Step)) → AllByRecursion (Begins p) (map (λ r. p ∷ r) ps)
begins_map p [] = tt
begins_map p (r ∷ ps) = ((r, refl), begins_map p ps)

below_cons : (p : Step) (a : List Step) (ps : List (List Step)) → AllByRecursion (λ b. place_cmp a b ≡ Less) ps → AllByRecursion (λ b. place_cmp (p ∷ a) b ≡ Less) (map (λ r. p ∷ r) ps)
below_cons p a [] h = tt
below_cons p a (b ∷ ps) h = (ap (λ o. ordering_then o (place_cmp a b)) (tied_itself step_total p) ∙ h.0, below_cons p a ps h.1)

sorted_cons : (p : Step) (ps : List (List Step)) → IsStrictlySortedBy place_cmp ps → IsStrictlySortedBy place_cmp (map (λ r. p ∷ r) ps)
unfolding IsStrictlySortedBy
sorted_cons p [] h = tt
sorted_cons p (a ∷ ps) h = (below_cons p a ps h.0, sorted_cons p ps h.1)

less_of : (p : Step) (x y : List Step) → Begins p x → Above p y → place_cmp x y ≡ Less
less_of p x y (r, e) (q, w, d, h) = (λ i. place_cmp (e i) (d i)) ∙ ap (λ o. ordering_then o (place_cmp r w)) h

less_all : (p : Step) (x : List Step) (ys : List (List Step)) → Begins p x → AllByRecursion (Above p) ys → AllByRecursion (λ y. place_cmp x y ≡ Less) ys
less_all p x [] b h = tt
less_all p x (y ∷ ys) b h = (less_of p x y b h.0, less_all p x ys b h.1)

less_both : (p : Step) (xs ys : List (List Step)) → AllByRecursion (Begins p) xs → AllByRecursion (Above p) ys → AllByRecursion (λ x. AllByRecursion (λ y. place_cmp x y ≡ Less) ys) xs
less_both p [] ys b h = tt
less_both p (x ∷ xs) ys b h = (less_all p x ys b.0 h, less_both p xs ys b.1 h)

above_begins : (p q : Step) (ys : List (List Step)) → step_cmp p q ≡ Less → AllByRecursion (Begins q) ys → AllByRecursion (Above p) ys
above_begins p q [] h b = tt
above_begins p q (y ∷ ys) h b = ((q, b.0.0, b.0.1, h), above_begins p q ys h b.1)

above_blocks : (B : Step → List (List Step)) (heads : (q : Step) → AllByRecursion (Begins q) (B q)) (p : Step) (cs : List Step) → AllByRecursion (λ q. step_cmp p q ≡ Less) cs → AllByRecursion (Above p) (flat_map B cs)
above_blocks B heads p [] h = tt
above_blocks B heads p (q ∷ cs) h = all_append (Above p) (B q) (flat_map B cs) (above_begins p q (B q) h.0 (heads q)) (above_blocks B heads p cs h.1)

sorted_blocks : (B : Step → List (List Step)) (heads : (q : Step) → AllByRecursion (Begins q) (B q)) (each : (q : Step) → IsStrictlySortedBy place_cmp (B q)) (cs : List Step) → IsStrictlySortedBy step_cmp cs → IsStrictlySortedBy place_cmp (flat_map B cs)
unfolding IsStrictlySortedBy
sorted_blocks B heads each [] h = tt
sorted_blocks B heads each (p ∷ cs) h = sorted_append place_cmp (B p) (flat_map B cs) (each p) (sorted_blocks B heads each cs h.1) (less_both p (B p) (flat_map B cs) (heads p) (above_blocks B heads p cs h.0))

first_below : (p : Step) (ys : List (List Step)) → AllByRecursion (Begins p) ys → AllByRecursion (λ y. place_cmp [] y ≡ Less) ys
first_below p [] b = tt
first_below p (y ∷ ys) b = (ap (place_cmp []) b.0.1, first_below p ys b.1)

first_below_all : (B : Step → List (List Step)) (heads : (q : Step) → AllByRecursion (Begins q) (B q)) (cs : List Step) → AllByRecursion (λ y. place_cmp [] y ≡ Less) (flat_map B cs)
first_below_all B heads [] = tt
first_below_all B heads (p ∷ cs) = all_append (λ y. place_cmp [] y ≡ Less) (B p) (flat_map B cs) (first_below p (B p) (heads p)) (first_below_all B heads cs)

module _ {S : Type 0} (goes : Step → S → Option S) (candidates : S → List Step) where
  block_begins : (n : ℕ) (p : Step) (o : Option S) → AllByRecursion (Begins p) (if_some (λ t. map (λ ps. p ∷ ps) (places goes candidates n t)) o)
  block_begins n p None = tt
  block_begins n p (Some t) = begins_map p (places goes candidates n t)

  block_sorted : (n : ℕ) (p : Step) → ((t : S) → IsStrictlySortedBy place_cmp (places goes candidates n t)) → (o : Option S) → IsStrictlySortedBy place_cmp (if_some (λ t. map (λ ps. p ∷ ps) (places goes candidates n t)) o)
  unfolding IsStrictlySortedBy
  block_sorted n p rec None = tt
  block_sorted n p rec (Some t) = sorted_cons p (places goes candidates n t) (rec t)

  pub ordered : ((s : S) → IsStrictlySortedBy step_cmp (candidates s)) → (n : ℕ) (s : S) → IsStrictlySortedBy place_cmp (places goes candidates n s)
  unfolding places IsStrictlySortedBy
  ordered up zero s = (tt, tt)
  ordered up (suc n) s =
      let B = λ (p : Step). if_some (λ t. map (λ ps. p ∷ ps) (places goes candidates n t)) (goes p s) in
      let heads = λ (p : Step). block_begins n p (goes p s) in
      (first_below_all B heads (candidates s), sorted_blocks B heads (λ p. block_sorted n p (λ t. ordered up n t) (goes p s)) (candidates s) (up s))

  -- the computed places are exactly the sequences of allowed steps, in order
  pub are_places : ((s : S) → IsStrictlySortedBy step_cmp (candidates s)) → ((p : Step) (s : S) → IsSome (goes p s) → IsIn p (candidates s)) → (n : ℕ) (s : S) → ArePlaces goes n s (places goes candidates n s)
  are_places up all n s = record {
    ordered = ordered up n s;
    sound = λ p h. let k = sound goes candidates n s p (in_from_Contains p (places goes candidates n s) h) in record { short = k.0; allowed = k.1 };
    complete = λ p h. Contains-from_in p (places goes candidates n s) (complete goes candidates all n s p h.short h.allowed);
  }
