-- Entries of which the value at an index is another one.
use Rattle.std.proofs.Common.{◌≡◌, ◌<◌, ◌≤◌, ◌++◌, ℕ, zero, suc, Bool, true, false, true≢false, Bor, option_copied, Option, Some, None, List, [], ◌∷◌, Ordering, Less, Equal, Greater, map, refl, sym, ap, ◌∙◌, subst, arith, length, slice_set}
use Rattle.std.specs.Prelude.{IfSome, slice_get, slice_index_or}
use Rattle.std.specs.Bool.{MatchBool}
use Rattle.std.specs.List.{AllByRecursion}
use Rattle.std.specs.List.Sorted.{IsStrictlySortedBy}
use Rattle.std.specs.Map.{keys_of}
use Rattle.std.specs.Ordering.{match_ordering}
use Rattle.std.specs.Cmp.{tied_itself}
use Rattle.std.proofs.lemmas.Map.Keys.{sorted_head, sorted_tail}
use Rattle.cel_value.specs.Data.{Entries, KeyData, entry}
use Rattle.cel_value.specs.Keys.{key_cmp, key_order, key_total, key_view, put}
use Rattle.cel_value.specs.Replaced.{IsReplacedAt, entry_keys}
use Rattle.cel_value.specs.Listed.{Entry}
use Rattle.cel_value.specs.StoredEntries.{AreFew, AreSorted, with_value_at}
use Rattle.cel_value.specs.View.{view, entries_view}
use Rattle.cel_value.specs.declared.key.Key.{Key}
use Rattle.cel_value.specs.declared.value.Value.{Value}
use Rattle.cel_value.proofs.Stored.{above}

pub set_value : (es : List Entry) (i : ℕ) (d : Entry) (v : Value) → i < length es → slice_set es i ((slice_index_or es i d).0, v) ≡ with_value_at i v es
set_value [] i d v l = absurd (omega (arith, l))
set_value (e ∷ es) zero d v l = refl
set_value (e ∷ es) (suc i) d v l = ap (λ t. e ∷ t) (set_value es i d v (omega (arith, l)))

pub with_append : (xs ys : List Entry) (i : ℕ) (v : Value) → i < length xs → with_value_at i v (xs ++ ys) ≡ with_value_at i v xs ++ ys
with_append [] ys i v l = absurd (omega (arith, l))
with_append (x ∷ xs) ys zero v l = refl
with_append (x ∷ xs) ys (suc i) v l = ap (λ t. x ∷ t) (with_append xs ys i v (omega (arith, l)))

pub with_keys : (i : ℕ) (v : Value) (es : List Entry) → keys_of (with_value_at i v es) ≡ keys_of es
with_keys zero v [] = refl
with_keys (suc i) v [] = refl
with_keys zero v (e ∷ es) = refl
with_keys (suc i) v (e ∷ es) = ap (λ ks. e.0 ∷ ks) (with_keys i v es)

pub with_length : (i : ℕ) (v : Value) (es : List Entry) → length (with_value_at i v es) ≡ length es
with_length zero v [] = refl
with_length (suc i) v [] = refl
with_length zero v (e ∷ es) = refl
with_length (suc i) v (e ∷ es) = ap suc (with_length i v es)

pub with_sorted : (i : ℕ) (v : Value) (es : List Entry) → AreSorted es → AreSorted (with_value_at i v es)
with_sorted i v es s = subst (λ ks. IsStrictlySortedBy key_cmp ks) (sym (with_keys i v es)) s

pub all_at : {A : Type 0} (P : A → Type 0) (ks : List A) (i : ℕ) (k : A) → AllByRecursion P ks → slice_get ks i ≡ Some k → P k
all_at P [] i k a h = absurd cc
all_at P (l ∷ ks) zero k a h = let p : l ≡ k = cc in subst P p a.0
all_at P (l ∷ ks) (suc i) k a h = all_at P ks i k a.1 h

put_step : (o : Ordering) (e : Entry) (es : List Entry) (k : Key) (v : Value) → key_cmp k e.0 ≡ o → put (key_view k) (view v) (entries_view (e ∷ es))
    ≡ match_ordering o (entry (key_view k) (view v) (entries_view (e ∷ es))) (entry (key_view e.0) (view v) (entries_view es)) (entry (key_view e.0) (view e.1) (put (key_view k) (view v) (entries_view es)))
put_step o e es k v h = ap (λ p. match_ordering p (entry (key_view k) (view v) (entries_view (e ∷ es))) (entry (key_view e.0) (view v) (entries_view es)) (entry (key_view e.0) (view e.1) (put (key_view k) (view v) (entries_view es)))) h

-- the value at an index is that at the key there
pub with_put : (es : List Entry) (i : ℕ) (k : Key) (v : Value) → AreSorted es → slice_get (keys_of es) i ≡ Some k → entries_view (with_value_at i v es) ≡ put (key_view k) (view v) (entries_view es)
with_put [] i k v s h = absurd cc
with_put (e ∷ es) zero k v s h =
    let p : e.0 ≡ k = cc in
    sym (put_step Equal e es k v (ap (λ l. key_cmp k l) p ∙ tied_itself key_total k))
with_put (e ∷ es) (suc i) k v s h =
    let later = all_at (λ y. key_cmp e.0 y ≡ Less) (keys_of es) i k (sorted_head key_cmp e.0 (keys_of es) s) h in
    ap (λ t. entry (key_view e.0) (view e.1) t) (with_put es i k v (sorted_tail key_cmp e.0 (keys_of es) s) h)
    ∙ sym (put_step Greater e es k v (above e.0 k later))

pub key_found : (es : List Entry) (i : ℕ) (d : Entry) → i < length es → slice_get (keys_of es) i ≡ Some (slice_index_or es i d).0
key_found [] i d l = absurd (omega (arith, l))
key_found (e ∷ es) zero d l = refl
key_found (e ∷ es) (suc i) d l = key_found es i d (omega (arith, l))

pub key_missing : (es : List Entry) (i : ℕ) → length es ≤ i → slice_get (keys_of es) i ≡ None
key_missing [] i l = refl
key_missing (e ∷ es) zero l = absurd (omega (arith, l))
key_missing (e ∷ es) (suc i) l = key_missing es i (omega (arith, l))

pub key_append : (xs ys : List Entry) (i : ℕ) (k : Key) → slice_get (keys_of xs) i ≡ Some k → slice_get (keys_of (xs ++ ys)) i ≡ Some k
key_append [] ys i k h = absurd cc
key_append (x ∷ xs) ys zero k h = h
key_append (x ∷ xs) ys (suc i) k h = key_append xs ys i k h

-- ---- the first entry, and others behind it

pub behind_key : (r : Option (Bor Key)) (e : Entry) (rest tail es : List Entry) (i j : ℕ) → i ≡ suc j → option_copied r ≡ slice_get (keys_of rest) j → e ∷ (rest ++ tail) ≡ es
    → IfSome r (λ k. slice_get (keys_of es) i ≡ Some k.now)
behind_key None e rest tail es i j p h q = tt
behind_key (Some k) e rest tail es i j p h q =
    subst (λ l. slice_get (keys_of l) i ≡ Some k.now) q
    (ap (λ n. slice_get (keys_of (e ∷ (rest ++ tail))) n) p ∙ key_append rest tail j k.now (sym h))

-- what a replacement leaves of the others
abbrev pub Replaces : Bool → List Entry → List Entry → ℕ → Value → Type 0
Replaces r rest more j v = MatchBool r ((j < length rest) × (more ≡ with_value_at j v rest)) (more ≡ rest)

pub same_keys : (r : Bool) (rest tail more : List Entry) (j : ℕ) (v : Value) → Replaces r rest more j v → keys_of (more ++ tail) ≡ keys_of (rest ++ tail)
same_keys false rest tail more j v h = ap (λ l. keys_of (l ++ tail)) h
same_keys true rest tail more j v h =
    ap (λ l. keys_of (l ++ tail)) h.1 ∙ ap keys_of (sym (with_append rest tail j v h.0)) ∙ with_keys j v (rest ++ tail)

still_few : (r : Bool) (rest more : List Entry) (j : ℕ) (v : Value) → Replaces r rest more j v → AreFew rest → AreFew more
still_few false rest more j v h f = subst AreFew (sym h) f
still_few true rest more j v h f = omega (arith, f, ap length h.1, with_length j v rest)

pub still_stored : (r : Bool) (e : Entry) (rest tail more : List Entry) (j : ℕ) (v : Value) → Replaces r rest more j v → AreSorted (e ∷ (rest ++ tail)) → AreFew rest
    → AreSorted (e ∷ (more ++ tail)) × AreFew more
still_stored r e rest tail more j v h s f =
    (subst (λ ks. IsStrictlySortedBy key_cmp (e.0 ∷ ks)) (sym (same_keys r rest tail more j v h)) s, still_few r rest more j v h f)

pub behind_put : (r : Bool) (e : Entry) (rest tail more es : List Entry) (i j : ℕ) (v : Value) → i ≡ suc j → Replaces r rest more j v → AreSorted (e ∷ (rest ++ tail)) → e ∷ (rest ++ tail) ≡ es
    → r ≡ true → (k : Key) → slice_get (keys_of es) i ≡ Some k → entries_view (e ∷ (more ++ tail)) ≡ put (key_view k) (view v) (entries_view es)
behind_put false e rest tail more es i j v p h s q t = absurd (true≢false (sym t))
behind_put true e rest tail more es i j v p h s q t = λ k there.
    let at = ap (λ l. slice_get (keys_of l) i) q ∙ there in
    let next = ap (λ n. slice_get (keys_of (e ∷ (rest ++ tail))) n) (sym p) ∙ at in
    ap (λ l. entries_view (e ∷ (l ++ tail))) h.1
    ∙ ap (λ l. entries_view (e ∷ l)) (sym (with_append rest tail j v h.0))
    ∙ with_put (e ∷ (rest ++ tail)) (suc j) k v s next
    ∙ ap (λ l. put (key_view k) (view v) (entries_view l)) q

pub behind_same : (r : Bool) (e : Entry) (rest tail more es : List Entry) (j : ℕ) (v : Value) → Replaces r rest more j v → e ∷ (rest ++ tail) ≡ es → r ≡ false → e ∷ (more ++ tail) ≡ es
behind_same true e rest tail more es j v h q f = absurd (true≢false f)
behind_same false e rest tail more es j v h q f = ap (λ l. e ∷ (l ++ tail)) h ∙ q

-- the value of the first entry
pub first_put : (e : Entry) (others es : List Entry) (i : ℕ) (k : Key) (v w : Value) → i ≡ 0 → w ≡ v → AreSorted (e ∷ others) → e ∷ others ≡ es → slice_get (keys_of es) i ≡ Some k
    → entries_view ((e.0, w) ∷ others) ≡ put (key_view k) (view v) (entries_view es)
first_put e others es i k v w p is s q there =
    let at = ap (λ l. slice_get (keys_of l) i) q ∙ there in
    let here = ap (λ n. slice_get (keys_of (e ∷ others)) n) (sym p) ∙ at in
    ap (λ x. entries_view ((e.0, x) ∷ others)) is
    ∙ with_put (e ∷ others) 0 k v s here
    ∙ ap (λ l. put (key_view k) (view v) (entries_view l)) q

-- ---- entries as contracts see them

pub keys_seen : (es : List Entry) → entry_keys (entries_view es) ≡ map key_view (keys_of es)
keys_seen [] = refl
keys_seen (e ∷ es) = ap (λ ks. key_view e.0 ∷ ks) (keys_seen es)

seen_there : (ks : List Key) (i : ℕ) (k : Key) → slice_get ks i ≡ Some k → slice_get (map key_view ks) i ≡ Some (key_view k)
seen_there [] i k h = absurd cc
seen_there (l ∷ ks) zero k h = let p : l ≡ k = cc in ap (λ x. Some (key_view x)) p
seen_there (l ∷ ks) (suc i) k h = seen_there ks i k h

there_seen : (ks : List Key) (i : ℕ) (d : KeyData) → slice_get (map key_view ks) i ≡ Some d → (k : Key) × (slice_get ks i ≡ Some k) × (key_view k ≡ d)
there_seen [] i d h = absurd cc
there_seen (l ∷ ks) zero d h = let p : key_view l ≡ d = cc in (l, refl, p)
there_seen (l ∷ ks) (suc i) d h = there_seen ks i d h

all_seen : (k : Key) (ks : List Key) → AllByRecursion (λ y. key_cmp k y ≡ Less) ks → AllByRecursion (λ y. key_order (key_view k) y ≡ Less) (map key_view ks)
all_seen k [] a = tt
all_seen k (l ∷ ks) a = (a.0, all_seen k ks a.1)

seen_cons : (k : Key) (ks : List Key) → AllByRecursion (λ y. key_order (key_view k) y ≡ Less) (map key_view ks) → IsStrictlySortedBy key_order (map key_view ks) → IsStrictlySortedBy key_order (map key_view (k ∷ ks))
unfolding IsStrictlySortedBy
seen_cons k ks a s = (a, s)

seen_none : IsStrictlySortedBy key_order []
unfolding IsStrictlySortedBy
seen_none = tt

sorted_seen : (ks : List Key) → IsStrictlySortedBy key_cmp ks → IsStrictlySortedBy key_order (map key_view ks)
sorted_seen [] s = seen_none
sorted_seen (k ∷ ks) s = seen_cons k ks (all_seen k ks (sorted_head key_cmp k ks s)) (sorted_seen ks (sorted_tail key_cmp k ks s))

pub replaced_seen : (i : ℕ) (v : Value) (es fs : List Entry) → IsStrictlySortedBy key_cmp (keys_of es) → keys_of fs ≡ keys_of es
    → ((k : Key) → slice_get (keys_of es) i ≡ Some k → entries_view fs ≡ put (key_view k) (view v) (entries_view es)) → IsReplacedAt i (view v) (entries_view es) (entries_view fs)
replaced_seen i v es fs s same h = (
  subst (IsStrictlySortedBy key_order) (sym (keys_seen es)) (sorted_seen (keys_of es) s),
  keys_seen fs ∙ ap (map key_view) same ∙ sym (keys_seen es),
  λ d there.
      let found = there_seen (keys_of es) i d (ap (λ ks. slice_get ks i) (sym (keys_seen es)) ∙ there) in
      h found.0 found.1 ∙ ap (λ x. put x (view v) (entries_view es)) found.2,
)

pub key_in_map : (r : Option (Bor Key)) (es : List Entry) (m : Entries) (i : ℕ) → entries_view es ≡ m → IfSome r (λ k. slice_get (keys_of es) i ≡ Some k.now)
    → IfSome r (λ k. slice_get (entry_keys m) i ≡ Some (key_view k.now))
key_in_map None es m i e h = tt
key_in_map (Some k) es m i e h =
    ap (λ x. slice_get (entry_keys x) i) (sym e) ∙ ap (λ ks. slice_get ks i) (keys_seen es) ∙ seen_there (keys_of es) i k.now h
