-- Entries in front of others: where a key is, and what is there after a change.
use Rattle.std.proofs.Common.{◌≡◌, ◌≤◌, ◌<◌, cond, Bool, true, false, ℕ, suc, Option, Some, None, Result, Ok, Err, List, [], ◌∷◌, ◌++◌, Ordering, Less, Equal, Greater, refl, sym, ap, ◌∙◌, subst, arith, length, append_assoc}
use Rattle.std.specs.BTreeMap.{insert_entry}
use Rattle.std.specs.List.{AllByRecursion}
use Rattle.std.specs.Map.{keys_of, lookup}
use Rattle.std.specs.Ordering.{match_ordering}
use Rattle.std.proofs.lemmas.Map.Keys.{sorted_head, sorted_tail}
use Rattle.cel_value.specs.Keys.{key_cmp}
use Rattle.cel_value.specs.Listed.{Entry}
use Rattle.cel_value.specs.StoredEntries.{AreSorted, one_further, place_of}
use Rattle.cel_value.specs.declared.key.Key.{Key}
use Rattle.cel_value.specs.declared.value.Value.{Value}
use Rattle.cel_value.proofs.Stored.{sorted_cons, sorted_none}

all_left : (P : Key → Type 0) (xs ys : List Entry) → AllByRecursion P (keys_of (xs ++ ys)) → AllByRecursion P (keys_of xs)
all_left P [] ys a = tt
all_left P (x ∷ xs) ys a = (a.0, all_left P xs ys a.1)

pub sorted_left : (xs ys : List Entry) → AreSorted (xs ++ ys) → AreSorted xs
sorted_left [] ys s = sorted_none
sorted_left (x ∷ xs) ys s =
    sorted_cons x xs (all_left (λ y. key_cmp x.0 y ≡ Less) xs ys (sorted_head key_cmp x.0 (keys_of (xs ++ ys)) s))
    (sorted_left xs ys (sorted_tail key_cmp x.0 (keys_of (xs ++ ys)) s))

sorted_right : (xs ys : List Entry) → AreSorted (xs ++ ys) → AreSorted ys
sorted_right [] ys s = s
sorted_right (x ∷ xs) ys s = sorted_right xs ys (sorted_tail key_cmp x.0 (keys_of (xs ++ ys)) s)

put_first : (e : Entry) (ys : List Entry) → AreSorted (e ∷ ys) → insert_entry key_cmp ys e.0 e.1 ≡ e ∷ ys
put_first e [] s = refl
put_first e (y ∷ ys) s =
    ap (λ o. match_ordering o (e ∷ y ∷ ys) ((y.0, e.1) ∷ ys) (y ∷ insert_entry key_cmp ys e.0 e.1)) (sorted_head key_cmp e.0 (keys_of (y ∷ ys)) s).0

-- the last of some entries is added to those that follow
pub moved : (es xs ys zs : List Entry) (k : Key) (v : Value) → AreSorted (es ++ ys) → es ≡ xs ++ (k, v) ∷ [] → zs ≡ insert_entry key_cmp ys k v → xs ++ zs ≡ es ++ ys
moved es xs ys zs k v s p q =
    let whole : es ++ ys ≡ xs ++ (k, v) ∷ ys = ap (λ l. l ++ ys) p ∙ append_assoc xs ((k, v) ∷ []) ys in
    ap (λ l. xs ++ l) (q ∙ put_first (k, v) ys (sorted_right xs ((k, v) ∷ ys) (subst AreSorted whole s))) ∙ sym whole

missing_step : (o : Ordering) (r s : Result ℕ ℕ) (n m : ℕ) → match_ordering o (Err 0) (Ok 0) (one_further r) ≡ Err m → m < suc n → ((i : ℕ) → r ≡ Err i → i < n → s ≡ Err i)
    → match_ordering o (Err 0) (Ok 0) (one_further s) ≡ Err m
missing_step Less r s n m h l f = h
missing_step Equal r s n m h l f = absurd cc
missing_step Greater (Ok i) s n m h l f = absurd cc
missing_step Greater (Err i) s n m h l f = let p : suc i ≡ m = cc in ap one_further (f i refl (omega (arith, p, l))) ∙ h

-- a key that belongs before one of the first entries
pub missing_left : (k : Key) (xs ys : List Entry) (m : ℕ) → place_of k xs ≡ Err m → m < length xs → place_of k (xs ++ ys) ≡ Err m
missing_left k [] ys m h l = absurd (omega (arith, l))
missing_left k (x ∷ xs) ys m h l = missing_step (key_cmp k x.0) (place_of k xs) (place_of k (xs ++ ys)) (length xs) m h l (λ i. missing_left k xs ys i)

past_step : (o : Ordering) (r : Result ℕ ℕ) (n m : ℕ) (a b c d : List Entry) → match_ordering o (Err 0) (Ok 0) (one_further r) ≡ Err m → suc n ≤ m → ((i : ℕ) → r ≡ Err i → n ≤ i → c ≡ d)
    → match_ordering o a b c ≡ d
past_step Less r n m a b c d h l f = let p : m ≡ 0 = cc in absurd (omega (arith, p, l))
past_step Equal r n m a b c d h l f = absurd cc
past_step Greater (Ok i) n m a b c d h l f = absurd cc
past_step Greater (Err i) n m a b c d h l f = let p : suc i ≡ m = cc in f i refl (omega (arith, p, l))

-- a key that comes after the first entries
pub put_past : (k : Key) (v : Value) (xs ys : List Entry) (m : ℕ) → place_of k xs ≡ Err m → length xs ≤ m → insert_entry key_cmp (xs ++ ys) k v ≡ xs ++ insert_entry key_cmp ys k v
put_past k v [] ys m h l = refl
put_past k v (x ∷ xs) ys m h l =
    past_step (key_cmp k x.0) (place_of k xs) (length xs) m _ _ (x ∷ insert_entry key_cmp (xs ++ ys) k v) (x ∷ (xs ++ insert_entry key_cmp ys k v)) h l (λ i p q. ap (λ l. x ∷ l) (put_past k v xs ys i p q))

found_step : (o : Ordering) (r : Result ℕ ℕ) (x e : Entry) (xs ys fs gs : List Entry) (m : ℕ) → match_ordering o (Err 0) (Ok 0) (one_further r) ≡ Ok m → ((i : ℕ) → r ≡ Ok i → gs ≡ fs ++ ys)
    → match_ordering o (e ∷ x ∷ (xs ++ ys)) ((x.0, e.1) ∷ (xs ++ ys)) (x ∷ gs) ≡ match_ordering o (e ∷ x ∷ xs) ((x.0, e.1) ∷ xs) (x ∷ fs) ++ ys
found_step Less r x e xs ys fs gs m h f = absurd cc
found_step Equal r x e xs ys fs gs m h f = refl
found_step Greater (Ok i) x e xs ys fs gs m h f = ap (λ l. x ∷ l) (f i refl)
found_step Greater (Err i) x e xs ys fs gs m h f = absurd cc

-- a key that one of the first entries has
pub put_found : (k : Key) (v : Value) (xs ys : List Entry) (m : ℕ) → place_of k xs ≡ Ok m → insert_entry key_cmp (xs ++ ys) k v ≡ insert_entry key_cmp xs k v ++ ys
put_found k v [] ys m h = absurd cc
put_found k v (x ∷ xs) ys m h =
    found_step (key_cmp k x.0) (place_of k xs) x (k, v) xs ys (insert_entry key_cmp xs k v) (insert_entry key_cmp (xs ++ ys) k v) m h (λ i. put_found k v xs ys i)

left_step : (b : Bool) (w v : Value) (r s : Option Value) → cond b (Some w) r ≡ Some v → (r ≡ Some v → s ≡ Some v) → cond b (Some w) s ≡ Some v
left_step true w v r s h f = h
left_step false w v r s h f = f h

pub lookup_left : (test : Key → Bool) (xs ys : List Entry) (v : Value) → lookup test xs ≡ Some v → lookup test (xs ++ ys) ≡ Some v
lookup_left test [] ys v h = absurd cc
lookup_left test (x ∷ xs) ys v h = left_step (test x.0) x.1 v (lookup test xs) (lookup test (xs ++ ys)) h (lookup_left test xs ys v)

right_step : (b : Bool) (w : Value) (r s t : Option Value) → cond b (Some w) r ≡ None → (r ≡ None → s ≡ t) → cond b (Some w) s ≡ t
right_step true w r s t h f = absurd cc
right_step false w r s t h f = f h

pub lookup_right : (test : Key → Bool) (xs ys : List Entry) → lookup test xs ≡ None → lookup test (xs ++ ys) ≡ lookup test ys
lookup_right test [] ys h = refl
lookup_right test (x ∷ xs) ys h = right_step (test x.0) x.1 (lookup test xs) (lookup test (xs ++ ys)) (lookup test ys) h (lookup_right test xs ys)
