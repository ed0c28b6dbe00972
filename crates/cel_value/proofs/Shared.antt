-- Maps that share their keys.
use Rattle.std.proofs.Common.{◌≡◌, ◌≤◌, ◌<◌, false, true, cond, subst, Ordering, Equal, ℕ, zero, suc, Bool, Some, None, List, [], ◌∷◌, ◌++◌, Less, Greater, refl, sym, ap, ◌∙◌, arith, length, drop, get_or}
use Rattle.std.specs.Prelude.{zip, slice_get, Option, IfSome, MatchOption, option_copied, Result, Ok, Err, OnOk, OnErr, if◌then◌else◌}
use Rattle.std.specs.Borrow.{Bor}
use Rattle.std.proofs.lemmas.Option.{slice_get_past, slice_get_read}
use Rattle.std.specs.List.{AllByRecursion, HoldsAt}
use Rattle.std.specs.List.Sorted.{IsStrictlySortedBy}
use Rattle.std.specs.Map.{keys_of, lookup}
use Rattle.std.specs.Ordering.{is_eq, is_lt}
use Rattle.std.proofs.lemmas.Map.Keys.{sorted_head, sorted_tail}
use Rattle.cel_value.specs.Data.{entry}
use Rattle.cel_value.specs.Find.{find}
use Rattle.cel_value.specs.Listed.{Entry}
use Rattle.cel_value.specs.Keys.{key_cmp, key_total, key_view, put}
use Rattle.cel_value.specs.Levels.{entries_levels, items_levels}
use Rattle.cel_value.specs.Same.{entries_have_double, items_have_double}
use Rattle.cel_value.specs.View.{view, items_view, entries_view}
use Rattle.cel_value.specs.declared.key.Key.{Key}
use Rattle.cel_value.specs.declared.value.Value.{Value}
use Rattle.cel_value.proofs.Stored.{above}

-- ---- keys in order

rising_cons : (k : Key) (ks : List Key) → AllByRecursion (λ y. key_cmp k y ≡ Less) ks → IsStrictlySortedBy key_cmp ks → IsStrictlySortedBy key_cmp (k ∷ ks)
unfolding IsStrictlySortedBy
rising_cons k ks a s = (a, s)

pub rising_none : IsStrictlySortedBy key_cmp []
unfolding IsStrictlySortedBy
rising_none = tt

all_higher : (k l : Key) (ks : List Key) → key_cmp k l ≡ Less → AllByRecursion (λ y. key_cmp l y ≡ Less) ks → AllByRecursion (λ y. key_cmp k y ≡ Less) ks
all_higher k l [] h a = tt
all_higher k l (m ∷ ks) h a = (key_total.trans k l m h a.0, all_higher k l ks h a.1)

rising_next : (k l : Key) (ks : List Key) → key_cmp k l ≡ Less → IsStrictlySortedBy key_cmp (l ∷ ks) → IsStrictlySortedBy key_cmp (k ∷ l ∷ ks)
rising_next k l ks h s = rising_cons k (l ∷ ks) (h, all_higher k l ks h (sorted_head key_cmp l ks s)) s

-- at most one key is left
pub rising_end : (ks : List Key) (m : ℕ) → length ks ≤ suc m → IsStrictlySortedBy key_cmp (drop m ks)
rising_end [] zero h = rising_none
rising_end [] (suc m) h = rising_none
rising_end (k ∷ []) zero h = rising_cons k [] tt rising_none
rising_end (k ∷ l ∷ ks) zero h = absurd (omega (arith, h))
rising_end (k ∷ ks) (suc m) h = rising_end ks m (omega (arith, h))

more_from : (ks : List Key) (m : ℕ) (d e : Key) → suc m < length ks → key_cmp (get_or ks m d) (get_or ks (suc m) e) ≡ Less → IsStrictlySortedBy key_cmp (drop (suc m) ks) → IsStrictlySortedBy key_cmp (drop m ks)
more_from [] m d e l h s = absurd (omega (arith, l))
more_from (k ∷ []) m d e l h s = absurd (omega (arith, l))
more_from (k ∷ l ∷ ks) zero d e b h s = rising_next k l ks h s
more_from (k ∷ l ∷ ks) (suc m) d e b h s = more_from (l ∷ ks) m d e (omega (arith, b)) h s

pair_from : (ks : List Key) (m : ℕ) (d e : Key) → suc m < length ks → IsStrictlySortedBy key_cmp ks → key_cmp (get_or ks m d) (get_or ks (suc m) e) ≡ Less
pair_from [] m d e l s = absurd (omega (arith, l))
pair_from (k ∷ []) m d e l s = absurd (omega (arith, l))
pair_from (k ∷ l ∷ ks) zero d e b s = (sorted_head key_cmp k (l ∷ ks) s).0
pair_from (k ∷ l ∷ ks) (suc m) d e b s = pair_from (l ∷ ks) m d e (omega (arith, b)) (sorted_tail key_cmp k (l ∷ ks) s)

-- two keys in a row, read at their indices
pub rising_more : (ks : List Key) (m n : ℕ) (a b : Key) → n ≡ suc m → n < length ks → a ≡ get_or ks m a → b ≡ get_or ks n b → key_cmp a b ≡ Less → IsStrictlySortedBy key_cmp (drop n ks) → IsStrictlySortedBy key_cmp (drop m ks)
rising_more ks m n a b e l p q h s =
    let next = ap (λ i. get_or ks i b) e in
    more_from ks m a b (subst (λ i. i < length ks) e l) ((λ i. key_cmp (sym p i) (sym (q ∙ next) i)) ∙ h) (subst (λ i. IsStrictlySortedBy key_cmp (drop i ks)) e s)

pub rising_pair : (ks : List Key) (m n : ℕ) (a b : Key) → n ≡ suc m → n < length ks → a ≡ get_or ks m a → b ≡ get_or ks n b → IsStrictlySortedBy key_cmp ks → key_cmp a b ≡ Less
rising_pair ks m n a b e l p q s =
    let next = ap (λ i. get_or ks i b) e in
    (λ i. key_cmp (p i) ((q ∙ next) i)) ∙ pair_from ks m a b (subst (λ i. i < length ks) e l) s

pub lt_true : (o : Ordering) → is_lt o ≡ true → o ≡ Less
lt_true Less h = refl
lt_true Equal h = absurd cc
lt_true Greater h = absurd cc

pub lt_false : (o : Ordering) → o ≡ Less → is_lt o ≡ false → ⊥
lt_false Less h e = cc
lt_false Equal h e = cc
lt_false Greater h e = cc

-- ---- keys with their values

zip_none : (ks : List Key) → zip {K = Key} {X = Value} ks [] ≡ []
zip_none [] = refl
zip_none (k ∷ ks) = refl

pub zip_length : (ks : List Key) (vs : List Value) → length vs ≤ length ks → length (zip ks vs) ≡ length vs
zip_length [] [] h = refl
zip_length [] (v ∷ vs) h = absurd (omega (arith, h))
zip_length (k ∷ ks) [] h = refl
zip_length (k ∷ ks) (v ∷ vs) h = ap suc (zip_length ks vs (omega (arith, h)))

pub zip_doubles : (ks : List Key) (vs : List Value) → length vs ≤ length ks → items_have_double (items_view vs) ≡ entries_have_double (entries_view (zip ks vs))
zip_doubles [] [] h = refl
zip_doubles [] (v ∷ vs) h = absurd (omega (arith, h))
zip_doubles (k ∷ ks) [] h = refl
zip_doubles (k ∷ ks) (v ∷ vs) h = rw (zip_doubles ks vs (omega (arith, h)))

pub zip_levels : (ks : List Key) (vs : List Value) → length vs ≤ length ks → items_levels (items_view vs) ≡ entries_levels (entries_view (zip ks vs))
zip_levels [] [] h = refl
zip_levels [] (v ∷ vs) h = absurd (omega (arith, h))
zip_levels (k ∷ ks) [] h = refl
zip_levels (k ∷ ks) (v ∷ vs) h = rw (zip_levels ks vs (omega (arith, h)))

all_zipped : (P : Key → Type 0) (ks : List Key) (vs : List Value) → AllByRecursion P ks → AllByRecursion P (keys_of (zip ks vs))
all_zipped P [] vs a = tt
all_zipped P (k ∷ ks) [] a = tt
all_zipped P (k ∷ ks) (v ∷ vs) a = (a.0, all_zipped P ks vs a.1)

pub zip_rising : (ks : List Key) (vs : List Value) → IsStrictlySortedBy key_cmp ks → IsStrictlySortedBy key_cmp (keys_of (zip ks vs))
zip_rising [] vs s = rising_none
zip_rising (k ∷ ks) [] s = rising_none
zip_rising (k ∷ ks) (v ∷ vs) s = rising_cons k (keys_of (zip ks vs)) (all_zipped (λ y. key_cmp k y ≡ Less) ks vs (sorted_head key_cmp k ks s)) (zip_rising ks vs (sorted_tail key_cmp k ks s))

-- ---- the value at a key

module _ (test : Key → Bool) where
  pub found_at : (ks : List Key) (vs : List Value) (i : ℕ) (d : Key) → i < length ks → test (get_or ks i d) ≡ true → lookup test (zip (drop i ks) (drop i vs)) ≡ slice_get vs i
  found_at [] vs i d l h = absurd (omega (arith, l))
  found_at (k ∷ ks) [] zero d l h = refl
  found_at (k ∷ ks) (v ∷ vs) zero d l h = ap (λ b. cond b (Some v) (lookup test (zip ks vs))) h
  found_at (k ∷ ks) [] (suc i) d l h = ap (lookup test) (zip_none (drop i ks))
  found_at (k ∷ ks) (v ∷ vs) (suc i) d l h = found_at ks vs i d (omega (arith, l)) h

  pub passed : (ks : List Key) (vs : List Value) (i : ℕ) (d : Key) → i < length ks → test (get_or ks i d) ≡ false → lookup test (zip (drop i ks) (drop i vs)) ≡ lookup test (zip (drop (suc i) ks) (drop (suc i) vs))
  passed [] vs i d l h = absurd (omega (arith, l))
  passed (k ∷ ks) [] zero d l h = ap (lookup test) (sym (zip_none ks))
  passed (k ∷ ks) (v ∷ vs) zero d l h = ap (λ b. cond b (Some v) (lookup test (zip ks vs))) h
  passed (k ∷ ks) [] (suc i) d l h = ap (lookup test) (zip_none (drop i ks) ∙ sym (zip_none (drop (suc i) ks)))
  passed (k ∷ ks) (v ∷ vs) (suc i) d l h = passed ks vs i d (omega (arith, l)) h

  pub none_left : (ks : List Key) (vs : List Value) (i : ℕ) → length ks ≤ i → lookup test (zip (drop i ks) (drop i vs)) ≡ None
  none_left [] vs zero l = refl
  none_left [] vs (suc i) l = refl
  none_left (k ∷ ks) vs zero l = absurd (omega (arith, l))
  none_left (k ∷ ks) [] (suc i) l = ap (lookup test) (zip_none (drop i ks))
  none_left (k ∷ ks) (v ∷ vs) (suc i) l = none_left ks vs i (omega (arith, l))

-- ---- what is read at an index

pub read_at : (vs : List Value) (i : ℕ) (r : Option (Bor Value)) → MatchOption r (length vs ≤ i) (λ x. (i < length vs) × HoldsAt (λ y. x.now ≡ y) vs i) → IfSome r (λ x. x.now ≡ get_or vs i x.now) → option_copied r ≡ slice_get vs i
read_at vs i None h s = sym (slice_get_past vs i h)
read_at vs i (Some x) h s = sym (slice_get_read vs _ i x.now refl h.0 s)

-- ---- the entries that are left

pub next_left : (ks : List Key) (vs : List Value) (i : ℕ) (k : Key) (v : Value) → slice_get ks i ≡ Some k → slice_get vs i ≡ Some v → drop i (zip ks vs) ≡ (k, v) ∷ drop (suc i) (zip ks vs)
next_left [] vs i k v p q = absurd cc
next_left (l ∷ ks) [] i k v p q = absurd cc
next_left (l ∷ ks) (w ∷ vs) zero k v p q = let a : l ≡ k = cc in let b : w ≡ v = cc in λ i. (a i, b i) ∷ zip ks vs
next_left (l ∷ ks) (w ∷ vs) (suc i) k v p q = next_left ks vs i k v p q

pub no_key_left : (ks : List Key) (vs : List Value) (i : ℕ) → slice_get ks i ≡ None → drop i (zip ks vs) ≡ []
no_key_left [] vs zero p = refl
no_key_left [] vs (suc i) p = refl
no_key_left (l ∷ ks) [] zero p = refl
no_key_left (l ∷ ks) [] (suc i) p = refl
no_key_left (l ∷ ks) (w ∷ vs) zero p = absurd cc
no_key_left (l ∷ ks) (w ∷ vs) (suc i) p = no_key_left ks vs i p

pub no_value_left : (ks : List Key) (vs : List Value) (i : ℕ) → slice_get vs i ≡ None → drop i (zip ks vs) ≡ []
no_value_left [] vs zero p = refl
no_value_left [] vs (suc i) p = refl
no_value_left (l ∷ ks) [] zero p = refl
no_value_left (l ∷ ks) [] (suc i) p = refl
no_value_left (l ∷ ks) (w ∷ vs) zero p = absurd cc
no_value_left (l ∷ ks) (w ∷ vs) (suc i) p = no_value_left ks vs i p

-- ---- one more value

pub longer : (vs : List Value) (v : Value) → length (vs ++ v ∷ []) ≡ suc (length vs)
longer [] v = refl
longer (w ∷ vs) v = ap suc (longer vs v)

at_key : (P : Key → Type 0) (ks : List Key) (i : ℕ) (k : Key) → AllByRecursion P ks → slice_get ks i ≡ Some k → P k
at_key P [] i k a h = absurd cc
at_key P (l ∷ ks) zero k a h = let e : l ≡ k = cc in subst P e a.0
at_key P (l ∷ ks) (suc i) k a h = at_key P ks i k a.1 h

pub pushed : (ks : List Key) (vs : List Value) (k : Key) (v : Value) → IsStrictlySortedBy key_cmp ks → slice_get ks (length vs) ≡ Some k → entries_view (zip ks (vs ++ v ∷ [])) ≡ put (key_view k) (view v) (entries_view (zip ks vs))
pushed [] vs k v s h = absurd cc
pushed (l ∷ ks) [] k v s h = let e : l ≡ k = cc in λ i. entry (key_view (e i)) (view v) (entries_view (zip_none ks i))
pushed (l ∷ ks) (w ∷ vs) k v s h =
    rw (above l k (at_key (λ y. key_cmp l y ≡ Less) ks (length vs) k (sorted_head key_cmp l ks s) h))
    (ap (entry (key_view l) (view w)) (pushed ks vs k v (sorted_tail key_cmp l ks s) h))

pub not_there : (ks : List Key) (vs : List Value) (k : Key) → IsStrictlySortedBy key_cmp ks → slice_get ks (length vs) ≡ Some k → find (key_view k) (entries_view (zip ks vs)) ≡ None
not_there [] vs k s h = absurd cc
not_there (l ∷ ks) [] k s h = refl
not_there (l ∷ ks) (w ∷ vs) k s h =
    ap (λ o. if is_eq o then Some (view w) else find (key_view k) (entries_view (zip ks vs))) (above l k (at_key (λ y. key_cmp l y ≡ Less) ks (length vs) k (sorted_head key_cmp l ks s) h))
    ∙ not_there ks vs k (sorted_tail key_cmp l ks s) h

pub still_fits : {A E : Type 0} (r : Result A E) (n : ℕ) (vs ws : List Value) (v : Value) → length vs < n → OnOk r (ws ≡ vs ++ v ∷ []) → OnErr r (ws ≡ vs) → length ws ≤ n
still_fits (Ok a) n vs ws v l h k = omega (arith, l, ap length h, longer vs v)
still_fits (Err e) n vs ws v l h k = omega (arith, l, ap length k)

pub entry_pushed : {A E : Type 0} (r : Result A E) (ks : List Key) (vs ws : List Value) (v : Value) → IsStrictlySortedBy key_cmp ks → OnOk r (ws ≡ vs ++ v ∷ [])
    → OnOk r ((k : Key) → slice_get ks (length vs) ≡ Some k → (find (key_view k) (entries_view (zip ks vs)) ≡ None) × (entries_view (zip ks ws) ≡ put (key_view k) (view v) (entries_view (zip ks vs))))
entry_pushed (Ok a) ks vs ws v s h = λ k p. (not_there ks vs k s p, ap (λ us. entries_view (zip ks us)) h ∙ pushed ks vs k v s p)
entry_pushed (Err e) ks vs ws v s h = tt

-- ---- copied entries

below_at : (k : Key) (done : List Entry) (e : Entry) (rest : List Entry) → AllByRecursion (λ l. key_cmp k l ≡ Less) (keys_of (done ++ e ∷ rest)) → key_cmp k e.0 ≡ Less
below_at k [] e rest h = h.0
below_at k (f ∷ done) e rest h = below_at k done e rest h.1

-- an entry whose key is greater than all others goes to the end
pub put_last : (done : List Entry) (e : Entry) (rest : List Entry) → IsStrictlySortedBy key_cmp (keys_of (done ++ e ∷ rest)) → put (key_view e.0) (view e.1) (entries_view done) ≡ entries_view (done ++ e ∷ [])
put_last [] e rest s = refl
put_last (f ∷ done) e rest s =
    rw (above f.0 e.0 (below_at f.0 done e rest (sorted_head key_cmp f.0 (keys_of (done ++ e ∷ rest)) s)))
    (ap (entry (key_view f.0) (view f.1)) (put_last done e rest (sorted_tail key_cmp f.0 (keys_of (done ++ e ∷ rest)) s)))
