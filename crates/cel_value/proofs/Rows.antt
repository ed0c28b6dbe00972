-- Maps of the same keys, whose values lie side by side.
use Rattle.std.proofs.Common.{◌≡◌, ◌≤◌, ◌<◌, ◌+◌, ◌*◌, false, true, ℕ, zero, suc, Bool, List, [], ◌∷◌, ◌++◌, Ordering, Less, Equal, Greater, refl, sym, ap, ◌∙◌, arith, length, take, drop}
use Rattle.std.specs.Prelude.{zip, slice_get, if◌then◌else◌, Option, Some, None, IsSome}
use Rattle.std.specs.Map.{keys_of}
use Rattle.std.specs.Ordering.{match_ordering}
use Rattle.cel_value.specs.Data.{Data, null, bool, int, uint, double, text, bytes, list, map_of, timestamp, duration, optional, ip, cidr, quantity, semver, url, format, Entries, KeyData, entry, no_entries}
use Rattle.cel_value.specs.Keys.{key_order, key_view, put}
use Rattle.cel_value.specs.Levels.{entries_levels, levels}
use Rattle.cel_value.specs.Listed.{Entry}
use Rattle.cel_value.specs.Rows.{AreFlat, is_flat, row_values}
use Rattle.cel_value.specs.Same.{entries_have_double, has_double}
use Rattle.cel_value.specs.SharedEntries.{IsNestingOf}
use Rattle.cel_value.specs.View.{view, entries_view}
use Rattle.cel_value.specs.declared.key.Key.{Key}
use Rattle.cel_value.specs.declared.value.Nesting.{Nesting}
use Rattle.cel_value.specs.declared.value.Value.{Value}
use Rattle.cel_value.proofs.Shared.{zip_length}

-- what is flat has no levels and no double
pub flat_levels : (d : Data) → is_flat d ≡ true → levels d ≡ 0
flat_levels (list ds) h = absurd cc
flat_levels (map_of es) h = absurd cc
flat_levels (optional ds) h = absurd cc
flat_levels double h = refl
flat_levels null h = refl
flat_levels (bool b) h = refl
flat_levels (int n) h = refl
flat_levels (uint n) h = refl
flat_levels (text s) h = refl
flat_levels (bytes s) h = refl
flat_levels (timestamp t o) h = refl
flat_levels (duration n) h = refl
flat_levels (ip a) h = refl
flat_levels (cidr c) h = refl
flat_levels (quantity q) h = refl
flat_levels (semver v) h = refl
flat_levels (url u) h = refl
flat_levels (format f) h = refl

pub flat_double : (d : Data) → is_flat d ≡ true → has_double d ≡ false
flat_double (list ds) h = absurd cc
flat_double (map_of es) h = absurd cc
flat_double (optional ds) h = absurd cc
flat_double double h = absurd cc
flat_double null h = refl
flat_double (bool b) h = refl
flat_double (int n) h = refl
flat_double (uint n) h = refl
flat_double (text s) h = refl
flat_double (bytes s) h = refl
flat_double (timestamp t o) h = refl
flat_double (duration n) h = refl
flat_double (ip a) h = refl
flat_double (cidr c) h = refl
flat_double (quantity q) h = refl
flat_double (semver v) h = refl
flat_double (url u) h = refl
flat_double (format f) h = refl

-- ---- the values of a row

pub flat_drop : (n : ℕ) (vs : List Value) → AreFlat vs → AreFlat (drop n vs)
flat_drop zero vs h = h
flat_drop (suc n) [] h = tt
flat_drop (suc n) (v ∷ vs) h = flat_drop n vs h.1

pub flat_take : (n : ℕ) (vs : List Value) → AreFlat vs → AreFlat (take n vs)
flat_take zero vs h = tt
flat_take (suc n) [] h = tt
flat_take (suc n) (v ∷ vs) h = (h.0, flat_take n vs h.1)

pub flat_row : (w i : ℕ) (vs : List Value) → AreFlat vs → AreFlat (row_values w i vs)
flat_row w i vs h = flat_take w (drop (i * w) vs) (flat_drop (i * w) vs h)

pub flat_last : (vs : List Value) (v : Value) → AreFlat vs → is_flat (view v) ≡ true → AreFlat (vs ++ v ∷ [])
flat_last [] v h k = (k, tt)
flat_last (w ∷ vs) v h k = (h.0, flat_last vs v h.1 k)

neither : (a b : Bool) → a ≡ false → b ≡ false → (if a then true else b) ≡ false
neither true b h k = h
neither false b h k = k

pub zip_flat_doubles : (ks : List Key) (vs : List Value) → AreFlat vs → entries_have_double (entries_view (zip ks vs)) ≡ false
zip_flat_doubles [] vs h = refl
zip_flat_doubles (k ∷ ks) [] h = refl
zip_flat_doubles (k ∷ ks) (v ∷ vs) h = neither (has_double (view v)) (entries_have_double (entries_view (zip ks vs))) (flat_double (view v) h.0) (zip_flat_doubles ks vs h.1)

pub zip_flat_levels : (ks : List Key) (vs : List Value) → AreFlat vs → entries_levels (entries_view (zip ks vs)) ≡ 0
zip_flat_levels [] vs h = refl
zip_flat_levels (k ∷ ks) [] h = refl
zip_flat_levels (k ∷ ks) (v ∷ vs) h = omega (arith, flat_levels (view v) h.0, zip_flat_levels ks vs h.1)

take_length : (n : ℕ) (vs : List Value) → n ≤ length vs → length (take n vs) ≡ n
take_length zero vs h = refl
take_length (suc n) [] h = absurd (omega (arith, h))
take_length (suc n) (v ∷ vs) h = ap suc (take_length n vs (omega (arith, h)))

drop_length : (n m : ℕ) (vs : List Value) → n + m ≤ length vs → m ≤ length (drop n vs)
drop_length zero m vs h = omega (arith, h)
drop_length (suc n) m [] h = absurd (omega (arith, h))
drop_length (suc n) m (v ∷ vs) h = drop_length n m vs (omega (arith, h))

pub row_length : (w i : ℕ) (vs : List Value) → suc i * w ≤ length vs → length (row_values w i vs) ≡ w
row_length w i vs h = take_length w (drop (i * w) vs) (drop_length (i * w) w vs (omega (arith, h)))

pub row_count : (ks : List Key) (i : ℕ) (vs : List Value) → suc i * length ks ≤ length vs → length ks ≡ length (zip ks (row_values (length ks) i vs))
row_count ks i vs h =
    let l = row_length (length ks) i vs h in
    sym (zip_length ks (row_values (length ks) i vs) (omega (arith, l)) ∙ l)

-- ---- rows among others

more_rows : (w i n : ℕ) → i < n → suc i * w ≤ n * w
more_rows w i zero l = absurd (omega (arith, l))
more_rows w zero (suc n) l = omega arith
more_rows w (suc i) (suc n) l = omega (arith, more_rows w i n (omega (arith, l)))

pub rows_within : (w i n m : ℕ) → i < n → n * w ≤ m → suc i * w ≤ m
rows_within w i zero m l h = absurd (omega (arith, l))
rows_within w zero (suc n) m l h = omega (arith, h)
rows_within w (suc i) (suc n) m l h = omega (arith, more_rows w i n (omega (arith, l)), h)

-- ---- a flat value in place of another one

split_doubles : (a b : Bool) → (if a then true else b) ≡ false → (a ≡ false) × (b ≡ false)
split_doubles true b h = absurd cc
split_doubles false b h = (refl, h)

doubles_by : (o : Ordering) (k l : KeyData) (d e : Data) (es rest : Entries) → has_double d ≡ false → has_double e ≡ false → entries_have_double es ≡ false → entries_have_double rest ≡ false
    → entries_have_double (match_ordering o (entry k d (entry l e es)) (entry l d es) (entry l e rest)) ≡ false
doubles_by Less k l d e es rest p q r s = neither (has_double d) (entries_have_double (entry l e es)) p (neither (has_double e) (entries_have_double es) q r)
doubles_by Equal k l d e es rest p q r s = neither (has_double d) (entries_have_double es) p r
doubles_by Greater k l d e es rest p q r s = neither (has_double e) (entries_have_double rest) q s

pub put_flat_doubles : (k : KeyData) (d : Data) (es : Entries) → has_double d ≡ false → entries_have_double es ≡ false → entries_have_double (put k d es) ≡ false
put_flat_doubles k d no_entries p h = neither (has_double d) false p refl
put_flat_doubles k d (entry l e es) p h =
    let s = split_doubles (has_double e) (entries_have_double es) h in
    doubles_by (key_order k l) k l d e es (put k d es) p s.0 s.1 (put_flat_doubles k d es p s.1)

levels_by : (o : Ordering) (k l : KeyData) (d e : Data) (es rest : Entries) → levels d ≡ 0 → entries_levels (entry l e es) ≡ 0 → entries_levels rest ≡ 0
    → entries_levels (match_ordering o (entry k d (entry l e es)) (entry l d es) (entry l e rest)) ≡ 0
levels_by Less k l d e es rest p q r = omega (arith, p, q)
levels_by Equal k l d e es rest p q r = omega (arith, p, q)
levels_by Greater k l d e es rest p q r = omega (arith, q, r)

pub put_flat_levels : (k : KeyData) (d : Data) (es : Entries) → levels d ≡ 0 → entries_levels es ≡ 0 → entries_levels (put k d es) ≡ 0
put_flat_levels k d no_entries p h = omega (arith, p)
put_flat_levels k d (entry l e es) p h = levels_by (key_order k l) k l d e es (put k d es) p h (put_flat_levels k d es p (omega (arith, h)))

some_at : (o : Option Key) → IsSome o → (k : Key) × (o ≡ Some k)
some_at None h = cc
some_at (Some k) h = (k, refl)

pub flat_replaced : (n : Nesting) (es fs : List Entry) (i : ℕ) (v : Value) → (n.doubles ≡ false) × (n.levels ≡ 1) → is_flat (view v) ≡ true → IsNestingOf n es → IsSome (slice_get (keys_of es) i)
    → ((k : Key) → slice_get (keys_of es) i ≡ Some k → entries_view fs ≡ put (key_view k) (view v) (entries_view es)) → IsNestingOf n fs
flat_replaced n es fs i v flat is nesting found replaced =
    let at = some_at (slice_get (keys_of es) i) found in
    let put = replaced at.0 at.1 in
    let none : entries_levels (entries_view es) ≡ 0 = omega (arith, nesting.1, flat.1) in (
      flat.0 ∙ sym (ap entries_have_double put ∙ put_flat_doubles (key_view at.0) (view v) (entries_view es) (flat_double (view v) is) (sym nesting.0 ∙ flat.0)),
      omega (arith, flat.1, ap entries_levels put, put_flat_levels (key_view at.0) (view v) (entries_view es) (flat_levels (view v) is) none),
      nesting.2,
    )
