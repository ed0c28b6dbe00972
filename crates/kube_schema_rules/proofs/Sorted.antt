-- Keys and indices: sorted and complete.
use Rattle.kube_schema_rules.proofs.Ordered.{IsIn, in_left, in_right, all_append, all_map, sorted_append}
use Rattle.kube_schema_rules.specs.Inside.{insert_key, in_order, up_to}
use Rattle.std.proofs.Common.{◌≡◌, ◌<◌, ◌≤◌, ℕ, zero, suc, List, [], ◌∷◌, ◌++◌, map, Bool, true, false, nat_lt, Ordering, Less, Equal, Greater, nat_cmp, is_eq, refl, sym, ap, ◌∙◌, subst, inl, inr, arith}
use Rattle.std.proofs.lemmas.Bool.Decides.{nat_tests}
use Rattle.std.proofs.lemmas.Cmp.{nat_list_cmp_total}
use Rattle.std.proofs.lemmas.Map.Text.{is_eq-slice_cmp}
use Rattle.std.proofs.lemmas.Slice.Eq.{bytes_eq-Decides}
use Rattle.std.specs.Cmp.Lexicographic.{slice_cmp}
use Rattle.std.specs.List.{AllByRecursion}
use Rattle.std.specs.List.Sorted.{IsStrictlySortedBy}
use Rattle.std.specs.Ordering.{ordering_reverse, match_ordering}

pub sorted_map : {X Y : Type 0} (cmp : X → X → Ordering) (dmp : Y → Y → Ordering) (f : X → Y) (mono : (x y : X) → cmp x y ≡ Less → dmp (f x) (f y) ≡ Less) (xs : List X) → IsStrictlySortedBy cmp xs → IsStrictlySortedBy dmp (map f xs)
unfolding IsStrictlySortedBy
sorted_map cmp dmp f mono [] h = tt
sorted_map cmp dmp f mono (x ∷ xs) h = (all_map (λ y. cmp x y ≡ Less) (λ y. dmp (f x) y ≡ Less) f (mono x) xs h.0, sorted_map cmp dmp f mono xs h.1)

-- ---- keys

abbrev pub key_cmp : List ℕ → List ℕ → Ordering
key_cmp = slice_cmp nat_cmp

all_insert : (P : List ℕ → Type 0) (k : List ℕ) (ls : List (List ℕ)) → P k → AllByRecursion P ls → AllByRecursion P (insert_key k ls)
all_insert P k [] p h = (p, tt)
all_insert P k (l ∷ ls) p h = by (key_cmp k l) (all_insert P k ls p h.1)
  where
    by : (o : Ordering) → AllByRecursion P (insert_key k ls) → AllByRecursion P (match_ordering o (k ∷ l ∷ ls) (l ∷ ls) (l ∷ insert_key k ls))
    by Less r = (p, h)
    by Equal r = h
    by Greater r = (h.0, r)

below_all : (k l : List ℕ) (ls : List (List ℕ)) → key_cmp k l ≡ Less → AllByRecursion (λ y. key_cmp l y ≡ Less) ls → AllByRecursion (λ y. key_cmp k y ≡ Less) ls
below_all k l [] e h = tt
below_all k l (m ∷ ls) e h = (nat_list_cmp_total.trans k l m e h.0, below_all k l ls e h.1)

insert_sorted : (k : List ℕ) (ls : List (List ℕ)) → IsStrictlySortedBy key_cmp ls → IsStrictlySortedBy key_cmp (insert_key k ls)
unfolding IsStrictlySortedBy
insert_sorted k [] h = (tt, tt)
insert_sorted k (l ∷ ls) h = by (key_cmp k l) refl (insert_sorted k ls h.1)
  where
    by : (o : Ordering) → key_cmp k l ≡ o → IsStrictlySortedBy key_cmp (insert_key k ls) → IsStrictlySortedBy key_cmp (match_ordering o (k ∷ l ∷ ls) (l ∷ ls) (l ∷ insert_key k ls))
    by Less e r = ((e, below_all k l ls e h.0), h)
    by Equal e r = h
    by Greater e r = (all_insert (λ y. key_cmp l y ≡ Less) k ls (nat_list_cmp_total.antisymm l k ∙ ap ordering_reverse e) h.0, r)

pub keys_sorted : (ks : List (List ℕ)) → IsStrictlySortedBy key_cmp (in_order ks)
unfolding IsStrictlySortedBy
keys_sorted [] = tt
keys_sorted (k ∷ ks) = insert_sorted k (in_order ks) (keys_sorted ks)

pub same_key : (k l : List ℕ) → key_cmp k l ≡ Equal → k ≡ l
same_key k l e = (bytes_eq-Decides k l).0 (sym (is_eq-slice_cmp k l) ∙ ap is_eq e)

in_insert_here : (k : List ℕ) (ls : List (List ℕ)) → IsIn k (insert_key k ls)
in_insert_here k [] = inl refl
in_insert_here k (l ∷ ls) = by (key_cmp k l) refl (in_insert_here k ls)
  where
    by : (o : Ordering) → key_cmp k l ≡ o → IsIn k (insert_key k ls) → IsIn k (match_ordering o (k ∷ l ∷ ls) (l ∷ ls) (l ∷ insert_key k ls))
    by Less e r = inl refl
    by Equal e r = inl (sym (same_key k l e))
    by Greater e r = inr r

in_insert_keeps : (x k : List ℕ) (ls : List (List ℕ)) → IsIn x ls → IsIn x (insert_key k ls)
in_insert_keeps x k [] h = absurd h
in_insert_keeps x k (l ∷ ls) h = by (key_cmp k l) h (λ g. in_insert_keeps x k ls g)
  where
    by : (o : Ordering) → IsIn x (l ∷ ls) → (IsIn x ls → IsIn x (insert_key k ls)) → IsIn x (match_ordering o (k ∷ l ∷ ls) (l ∷ ls) (l ∷ insert_key k ls))
    by Less h r = inr h
    by Equal h r = h
    by Greater (inl e) r = inl e
    by Greater (inr g) r = inr (r g)

pub in_ordered : (x : List ℕ) (ks : List (List ℕ)) → IsIn x ks → IsIn x (in_order ks)
in_ordered x [] h = absurd h
in_ordered x (k ∷ ks) (inl e) = ap-in e (in_insert_here k (in_order ks))
  where
    ap-in : k ≡ x → IsIn k (insert_key k (in_order ks)) → IsIn x (insert_key k (in_order ks))
    ap-in e h = subst (λ y. IsIn y (insert_key k (in_order ks))) e h
in_ordered x (k ∷ ks) (inr h) = in_insert_keeps x k (in_order ks) (in_ordered x ks h)

goes_first : (k : List ℕ) (ks : List (List ℕ)) → AllByRecursion (λ y. key_cmp k y ≡ Less) ks → insert_key k ks ≡ k ∷ ks
goes_first k [] h = refl
goes_first k (l ∷ ks) h = rw h.0 refl

-- ascending keys are already in order
pub ordered_already : (ks : List (List ℕ)) → IsStrictlySortedBy key_cmp ks → in_order ks ≡ ks
unfolding IsStrictlySortedBy
ordered_already [] h = refl
ordered_already (k ∷ ks) h = ap (insert_key k) (ordered_already ks h.1) ∙ goes_first k ks h.0

-- ---- indices

pub less_than : (i j : ℕ) → i < j → nat_cmp i j ≡ Less
less_than i j h = grind (arith, nat_tests)

all_up : (m n : ℕ) → n ≤ m → AllByRecursion (λ x. AllByRecursion (λ y. nat_cmp x y ≡ Less) (m ∷ [])) (up_to n)
unfolding up_to
all_up m zero h = tt
all_up m (suc n) h =
    let le : n ≤ m = omega arith in
    let lt : n < m = omega arith in
    all_append (λ x. AllByRecursion (λ y. nat_cmp x y ≡ Less) (m ∷ [])) (up_to n) (n ∷ []) (all_up m n le) ((less_than n m lt, tt), tt)

pub up_sorted : (n : ℕ) → IsStrictlySortedBy nat_cmp (up_to n)
unfolding up_to IsStrictlySortedBy
up_sorted zero = tt
up_sorted (suc n) =
    let le : n ≤ n = omega arith in
    sorted_append nat_cmp (up_to n) (n ∷ []) (up_sorted n) (tt, tt) (all_up n n le)

pub in_up : (i n : ℕ) → i < n → IsIn i (up_to n)
unfolding up_to
in_up i zero h = absurd (omega arith)
in_up i (suc n) h = by (nat_lt i n) refl (λ g. in_up i n g)
  where
    by : (b : Bool) → nat_lt i n ≡ b → (i < n → IsIn i (up_to n)) → IsIn i (up_to n ++ n ∷ [])
    by true e r = in_left i (up_to n) (n ∷ []) (r (grind (arith, nat_tests)))
    by false e r = in_right i (up_to n) (n ∷ []) (inl (grind (arith, nat_tests)))
