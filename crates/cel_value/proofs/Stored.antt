-- Where a key is among sorted entries, and what is there after a change.
use Rattle.std.proofs.Common.{◌≡◌, ◌≤◌, ◌<◌, false, cond, is_ok, ℕ, zero, suc, Option, Some, None, Result, Ok, Err, List, [], ◌∷◌, Ordering, Less, Equal, Greater, refl, sym, ap, ◌∙◌, subst, arith, length, slice_set}
use Rattle.std.specs.Prelude.{MatchResult, OnOk, OnErr, insert, slice_index_or}
use Rattle.std.specs.BTreeMap.{insert_entry, is_at}
use Rattle.std.specs.List.{AllByRecursion}
use Rattle.std.specs.List.Sorted.{IsStrictlySortedBy}
use Rattle.std.specs.Map.{keys_of, lookup}
use Rattle.std.specs.Ordering.{match_ordering, ordering_reverse, is_eq}
use Rattle.std.proofs.lemmas.Map.Keys.{sorted_head, sorted_tail}
use Rattle.cel_value.specs.Keys.{key_cmp, key_total}
use Rattle.cel_value.specs.Listed.{Entry}
use Rattle.cel_value.specs.StoredEntries.{AreSorted, AreStored, all_entries, one_further, place_of}
use Rattle.cel_value.specs.declared.key.Key.{Key}
use Rattle.cel_value.specs.declared.value.Value.{Value}

-- a place from low up to high
abbrev pub IsBetween : ℕ → ℕ → Result ℕ ℕ → Type 0
IsBetween low high r = MatchResult r (λ i. (low ≤ i) × (i < high)) (λ i. (low ≤ i) × (i ≤ high))

further : (low high : ℕ) (r : Result ℕ ℕ) → IsBetween low high r → IsBetween (suc low) (suc high) (one_further r)
further low high (Ok i) h = (omega (arith, h.0), omega (arith, h.1))
further low high (Err i) h = (omega (arith, h.0), omega (arith, h.1))

wider : (low high a b : ℕ) (r : Result ℕ ℕ) → low ≤ a → b ≤ high → IsBetween a b r → IsBetween low high r
wider low high a b (Ok i) l h p = (omega (arith, l, p.0), omega (arith, h, p.1))
wider low high a b (Err i) l h p = (omega (arith, l, p.0), omega (arith, h, p.1))

pub both : (low high a b : ℕ) (r : Result ℕ ℕ) → IsBetween low high r → IsBetween a b r → IsBetween a high r
both low high a b (Ok i) p q = (q.0, p.1)
both low high a b (Err i) p q = (q.0, p.1)

pub both_low : (low high a b : ℕ) (r : Result ℕ ℕ) → IsBetween low high r → IsBetween a b r → IsBetween low b r
both_low low high a b (Ok i) p q = (p.0, q.1)
both_low low high a b (Err i) p q = (p.0, q.1)

-- where nothing is left, the key isn't there
pub only_place : (low : ℕ) (r : Result ℕ ℕ) → IsBetween low low r → r ≡ Err low
only_place low (Ok i) p = absurd (omega (arith, p.0, p.1))
only_place low (Err i) p = let e : i ≡ low = omega (arith, p.0, p.1) in ap Err e

place_step : (k : Key) (e : Entry) (es : List Entry) (o : Ordering) → key_cmp k e.0 ≡ o → place_of k (e ∷ es) ≡ match_ordering o (Err 0) (Ok 0) (one_further (place_of k es))
place_step k e es o h = ap (λ o. match_ordering o (Err 0) (Ok 0) (one_further (place_of k es))) h

step_within : (n : ℕ) (o : Ordering) (r : Result ℕ ℕ) → IsBetween 0 n r → IsBetween 0 (suc n) (match_ordering o (Err 0) (Ok 0) (one_further r))
step_within n Less r p = (omega arith, omega arith)
step_within n Equal r p = (omega arith, omega arith)
step_within n Greater r p = wider 0 (suc n) 1 (suc n) (one_further r) (omega arith) (omega arith) (further 0 n r p)

pub within : (k : Key) (es : List Entry) → IsBetween 0 (length es) (place_of k es)
within k [] = (omega arith, omega arith)
within k (e ∷ es) = step_within (length es) (key_cmp k e.0) (place_of k es) (within k es)

pub before : (k : Key) (es : List Entry) (m : ℕ) (d : Entry) → m < length es → key_cmp k (slice_index_or es m d).0 ≡ Less → IsBetween 0 m (place_of k es)
before k [] m d l h = absurd (omega (arith, l))
before k (e ∷ es) zero d l h = subst (IsBetween 0 0) (sym (place_step k e es Less h)) (omega arith, omega arith)
before k (e ∷ es) (suc m) d l h = step_within m (key_cmp k e.0) (place_of k es) (before k es m d (omega (arith, l)) h)

pub above : (k l : Key) → key_cmp k l ≡ Less → key_cmp l k ≡ Greater
above k l h = key_total.antisymm l k ∙ ap ordering_reverse h

under : (k l : Key) → key_cmp k l ≡ Greater → key_cmp l k ≡ Less
under k l h = key_total.antisymm l k ∙ ap ordering_reverse h

at_key : (k : Key) (es : List Entry) (m : ℕ) (d : Entry) → m < length es → AllByRecursion (λ y. key_cmp k y ≡ Less) (keys_of es) → key_cmp k (slice_index_or es m d).0 ≡ Less
at_key k [] m d l h = absurd (omega (arith, l))
at_key k (e ∷ es) zero d l h = h.0
at_key k (e ∷ es) (suc m) d l h = at_key k es m d (omega (arith, l)) h.1

-- a key that is above a later one is above the first
above_first : (k f l : Key) → key_cmp f l ≡ Less → key_cmp k l ≡ Greater → key_cmp k f ≡ Greater
above_first k f l h g = above f k (key_total.trans f l k h (under k l g))

above_first_equal : (k f l : Key) → key_cmp f l ≡ Less → key_cmp k l ≡ Equal → key_cmp k f ≡ Greater
above_first_equal k f l h g = key_total.congr k l f g ∙ above f l h

pub after : (k : Key) (es : List Entry) (m : ℕ) (d : Entry) → AreSorted es → m < length es → key_cmp k (slice_index_or es m d).0 ≡ Greater → IsBetween (suc m) (length es) (place_of k es)
after k [] m d s l h = absurd (omega (arith, l))
after k (e ∷ es) zero d s l h = subst (IsBetween 1 (suc (length es))) (sym (place_step k e es Greater h)) (further 0 (length es) (place_of k es) (within k es))
after k (e ∷ es) (suc m) d s l h =
    let first = above_first k e.0 _ (at_key e.0 es m d (omega (arith, l)) (sorted_head key_cmp e.0 (keys_of es) s)) h in
    subst (IsBetween (suc (suc m)) (suc (length es))) (sym (place_step k e es Greater first)) (further (suc m) (length es) (place_of k es) (after k es m d (sorted_tail key_cmp e.0 (keys_of es) s) (omega (arith, l)) h))

pub there : (k : Key) (es : List Entry) (m : ℕ) (d : Entry) → AreSorted es → m < length es → key_cmp k (slice_index_or es m d).0 ≡ Equal → place_of k es ≡ Ok m
there k [] m d s l h = absurd (omega (arith, l))
there k (e ∷ es) zero d s l h = place_step k e es Equal h
there k (e ∷ es) (suc m) d s l h =
    let first = above_first_equal k e.0 _ (at_key e.0 es m d (omega (arith, l)) (sorted_head key_cmp e.0 (keys_of es) s)) h in
    place_step k e es Greater first ∙ ap one_further (there k es m d (sorted_tail key_cmp e.0 (keys_of es) s) (omega (arith, l)) h)

-- a key above the last one comes after all
pub past_all : (k : Key) (es : List Entry) (m : ℕ) (d : Entry) → AreSorted es → suc m ≡ length es → key_cmp k (slice_index_or es m d).0 ≡ Greater → place_of k es ≡ Err (suc m)
past_all k es m d s l h = only_place (suc m) (place_of k es) (subst (λ n. IsBetween (suc m) n (place_of k es)) (sym l) (after k es m d s (omega (arith, l)) h))

found_step : (o : Ordering) (r : Result ℕ ℕ) (e : Entry) (es : List Entry) (m : ℕ) (d : Entry) (v : Option Value) → match_ordering o (Err 0) (Ok 0) (one_further r) ≡ Ok m → ((i : ℕ) → r ≡ Ok i → v ≡ Some (slice_index_or es i d).1)
    → cond (is_eq o) (Some e.1) v ≡ Some (slice_index_or (e ∷ es) m d).1
found_step Less r e es m d v h f = absurd cc
found_step Equal r e es m d v h f = let p : 0 ≡ m = cc in ap (λ i. Some (slice_index_or (e ∷ es) i d).1) p
found_step Greater (Ok i) e es m d v h f = let p : suc i ≡ m = cc in f i refl ∙ ap (λ i. Some (slice_index_or (e ∷ es) i d).1) p
found_step Greater (Err i) e es m d v h f = absurd cc

pub found : (k : Key) (es : List Entry) (m : ℕ) (d : Entry) → place_of k es ≡ Ok m → lookup (is_at (key_cmp k)) es ≡ Some (slice_index_or es m d).1
found k [] m d h = absurd cc
found k (e ∷ es) m d h = found_step (key_cmp k e.0) (place_of k es) e es m d (lookup (is_at (key_cmp k)) es) h (λ i. found k es i d)

ok_further : (r : Result ℕ ℕ) → is_ok (one_further r) ≡ is_ok r
ok_further (Ok i) = refl
ok_further (Err i) = refl

missing_step : (o : Ordering) (r : Result ℕ ℕ) (e : Entry) (v : Option Value) → is_ok (match_ordering o (Err 0) (Ok 0) (one_further r)) ≡ false → (o ≡ Less → v ≡ None) → (is_ok r ≡ false → v ≡ None)
    → cond (is_eq o) (Some e.1) v ≡ None
missing_step Less r e v h f g = f refl
missing_step Equal r e v h f g = absurd cc
missing_step Greater r e v h f g = g (sym (ok_further r) ∙ h)

all_above : (k l : Key) (es : List Entry) → key_cmp k l ≡ Less → AllByRecursion (λ y. key_cmp l y ≡ Less) (keys_of es) → AllByRecursion (λ y. key_cmp k y ≡ Less) (keys_of es)
all_above k l [] h a = tt
all_above k l (e ∷ es) h a = (key_total.trans k l e.0 h a.0, all_above k l es h a.1)

none_above : (k : Key) (es : List Entry) → AllByRecursion (λ y. key_cmp k y ≡ Less) (keys_of es) → lookup (is_at (key_cmp k)) es ≡ None
none_above k [] a = refl
none_above k (e ∷ es) a = ap (λ o. cond (is_eq o) (Some e.1) (lookup (is_at (key_cmp k)) es)) a.0 ∙ none_above k es a.1

pub missing : (k : Key) (es : List Entry) → AreSorted es → is_ok (place_of k es) ≡ false → lookup (is_at (key_cmp k)) es ≡ None
missing k [] s h = refl
missing k (e ∷ es) s h =
    missing_step (key_cmp k e.0) (place_of k es) e (lookup (is_at (key_cmp k)) es) h
    (λ a. none_above k es (all_above k e.0 es a (sorted_head key_cmp e.0 (keys_of es) s))) (missing k es (sorted_tail key_cmp e.0 (keys_of es) s))

added_step : (o : Ordering) (r : Result ℕ ℕ) (e x : Entry) (es fs : List Entry) (m : ℕ) → match_ordering o (Err 0) (Ok 0) (one_further r) ≡ Err m → ((i : ℕ) → r ≡ Err i → insert es i x ≡ fs)
    → insert (e ∷ es) m x ≡ match_ordering o (x ∷ e ∷ es) ((e.0, x.1) ∷ es) (e ∷ fs)
added_step Less r e x es fs m h f = let p : m ≡ 0 = cc in ap (λ i. insert (e ∷ es) i x) p
added_step Equal r e x es fs m h f = absurd cc
added_step Greater (Ok i) e x es fs m h f = absurd cc
added_step Greater (Err i) e x es fs m h f = let p : m ≡ suc i = cc in ap (λ i. insert (e ∷ es) i x) p ∙ ap (λ l. e ∷ l) (f i refl)

pub added : (k : Key) (v : Value) (es : List Entry) (m : ℕ) → place_of k es ≡ Err m → insert es m (k, v) ≡ insert_entry key_cmp es k v
added k v [] m h = let p : m ≡ 0 = cc in ap (λ i. insert [] i (k, v)) p
added k v (e ∷ es) m h = added_step (key_cmp k e.0) (place_of k es) e (k, v) es (insert_entry key_cmp es k v) m h (λ i. added k v es i)

replaced_step : (o : Ordering) (r : Result ℕ ℕ) (e d x : Entry) (es fs : List Entry) (m : ℕ) → match_ordering o (Err 0) (Ok 0) (one_further r) ≡ Ok m → ((i : ℕ) → r ≡ Ok i → slice_set es i ((slice_index_or es i d).0, x.1) ≡ fs)
    → slice_set (e ∷ es) m ((slice_index_or (e ∷ es) m d).0, x.1) ≡ match_ordering o (x ∷ e ∷ es) ((e.0, x.1) ∷ es) (e ∷ fs)
replaced_step Less r e d x es fs m h f = absurd cc
replaced_step Equal r e d x es fs m h f = let p : m ≡ 0 = cc in ap (λ i. slice_set (e ∷ es) i ((slice_index_or (e ∷ es) i d).0, x.1)) p
replaced_step Greater (Ok i) e d x es fs m h f =
    let p : m ≡ suc i = cc in ap (λ i. slice_set (e ∷ es) i ((slice_index_or (e ∷ es) i d).0, x.1)) p ∙ ap (λ l. e ∷ l) (f i refl)
replaced_step Greater (Err i) e d x es fs m h f = absurd cc

pub replaced : (k : Key) (v : Value) (es : List Entry) (m : ℕ) (d : Entry) → place_of k es ≡ Ok m → slice_set es m ((slice_index_or es m d).0, v) ≡ insert_entry key_cmp es k v
replaced k v [] m d h = absurd cc
replaced k v (e ∷ es) m d h = replaced_step (key_cmp k e.0) (place_of k es) e d (k, v) es (insert_entry key_cmp es k v) m h (λ i. replaced k v es i d)

all_put_step : (P : Key → Type 0) (o : Ordering) (k : Key) (v : Value) (e : Entry) (es fs : List Entry) → P k → P e.0 → AllByRecursion P (keys_of es) → AllByRecursion P (keys_of fs)
    → AllByRecursion P (keys_of (match_ordering o ((k, v) ∷ e ∷ es) ((e.0, v) ∷ es) (e ∷ fs)))
all_put_step P Less k v e es fs p h a b = (p, (h, a))
all_put_step P Equal k v e es fs p h a b = (h, a)
all_put_step P Greater k v e es fs p h a b = (h, b)

all_put : (P : Key → Type 0) (k : Key) (v : Value) (es : List Entry) → P k → AllByRecursion P (keys_of es) → AllByRecursion P (keys_of (insert_entry key_cmp es k v))
all_put P k v [] p a = (p, tt)
all_put P k v (e ∷ es) p a = all_put_step P (key_cmp k e.0) k v e es (insert_entry key_cmp es k v) p a.0 a.1 (all_put P k v es p a.1)

pub sorted_cons : (e : Entry) (es : List Entry) → AllByRecursion (λ y. key_cmp e.0 y ≡ Less) (keys_of es) → AreSorted es → AreSorted (e ∷ es)
unfolding IsStrictlySortedBy
sorted_cons e es a s = (a, s)

pub sorted_none : AreSorted []
unfolding IsStrictlySortedBy
sorted_none = tt

pub sorted_in_front : (k : Key) (v : Value) (e : Entry) (es : List Entry) → key_cmp k e.0 ≡ Less → AreSorted (e ∷ es) → AreSorted ((k, v) ∷ e ∷ es)
sorted_in_front k v e es h s = sorted_cons (k, v) (e ∷ es) (h, all_above k e.0 es h (sorted_head key_cmp e.0 (keys_of es) s)) s

pub sorted_put_behind : (k : Key) (v : Value) (e : Entry) (es : List Entry) → key_cmp k e.0 ≡ Greater → AreSorted (e ∷ es) → AreSorted (insert_entry key_cmp es k v) → AreSorted (e ∷ insert_entry key_cmp es k v)
sorted_put_behind k v e es h s t = sorted_cons e _ (all_put (λ y. key_cmp e.0 y ≡ Less) k v es (under k e.0 h) (sorted_head key_cmp e.0 (keys_of es) s)) t

sorted_put_step : (o : Ordering) (k : Key) (v : Value) (e : Entry) (es : List Entry) → key_cmp k e.0 ≡ o → AreSorted (e ∷ es) → AreSorted (insert_entry key_cmp es k v)
    → AreSorted (match_ordering o ((k, v) ∷ e ∷ es) ((e.0, v) ∷ es) (e ∷ insert_entry key_cmp es k v))
sorted_put_step Less k v e es h s t = sorted_in_front k v e es h s
sorted_put_step Equal k v e es h s t = s
sorted_put_step Greater k v e es h s t = sorted_put_behind k v e es h s t

pub sorted_put : (k : Key) (v : Value) (es : List Entry) → AreSorted es → AreSorted (insert_entry key_cmp es k v)
sorted_put k v [] s = sorted_cons (k, v) [] tt sorted_none
sorted_put k v (e ∷ es) s = sorted_put_step (key_cmp k e.0) k v e es refl s (sorted_put k v es (sorted_tail key_cmp e.0 (keys_of es) s))

-- a key below the first isn't there
pub none_below : (k : Key) (e : Entry) (es : List Entry) → key_cmp k e.0 ≡ Less → AreSorted (e ∷ es) → lookup (is_at (key_cmp k)) (e ∷ es) ≡ None
none_below k e es h s = none_above k (e ∷ es) (h, all_above k e.0 es h (sorted_head key_cmp e.0 (keys_of es) s))

pub stored_some : (o : Option Entry) (e : Entry) (es : List Entry) → o ≡ Some e → AreStored o es → AreSorted (e ∷ es)
stored_some o e es h s = subst (λ o. AreStored o es) h s

pub stored_behind : (o : Option Entry) (e : Entry) (es : List Entry) → o ≡ Some e → AreStored o es → AreSorted es
stored_behind o e es h s = sorted_tail key_cmp e.0 (keys_of es) (stored_some o e es h s)

pub stored_one : (o : Option Entry) (e : Entry) (es : List Entry) → o ≡ None → AreStored o es → AreSorted (e ∷ es)
stored_one o e es h s = subst (λ es. AreSorted (e ∷ es)) (sym (subst (λ o. AreStored o es) h s)) (sorted_cons e [] tt sorted_none)

pub put_or_kept : (A E : Type 0) (r : Result A E) (k : Key) (v : Value) (e : Entry) (es fs : List Entry) → key_cmp k e.0 ≡ Greater → AreSorted (e ∷ es) → OnOk r (fs ≡ insert_entry key_cmp es k v) → OnErr r (fs ≡ es) → AreSorted (e ∷ fs)
put_or_kept A E (Ok x) k v e es fs h s p q =
    subst (λ l. AreSorted (e ∷ l)) (sym p) (sorted_put_behind k v e es h s (sorted_put k v es (sorted_tail key_cmp e.0 (keys_of es) s)))
put_or_kept A E (Err x) k v e es fs h s p q = subst (λ l. AreSorted (e ∷ l)) (sym q) s

pub sorted_stored : (o : Option Entry) (es : List Entry) → AreStored o es → AreSorted (all_entries o es)
sorted_stored None es s = sorted_none
sorted_stored (Some e) es s = s
