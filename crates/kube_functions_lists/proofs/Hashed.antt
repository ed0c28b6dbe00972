-- Looking values up by their hashes.
use Rattle.std.proofs.Common.{◌≡◌, ℕ, ℤ, List, [], ◌∷◌, ◌++◌, Bool, true, false, cond, ◌&&◌, ◌||◌, Option, Some, None, is_some, map, take, length, get_or, refl, ap, sym, ◌∙◌, subst, ◌+◌, ◌<◌}
use Rattle.std.proofs.lemmas.Bool.{eqb-true, false≢true}
use Rattle.std.proofs.lemmas.Bool.Decides.{Decides-int_eq}
use Rattle.std.proofs.lemmas.Cmp.{eq_by_cmp_equiv, nat_cmp_total}
use Rattle.std.proofs.lemmas.List.{map-append, take_more}
use Rattle.std.specs.BTreeMap.{Updates}
use Rattle.std.specs.BTreeSet.{BTreeSet}
use Rattle.std.specs.BTreeSet as sets
use Rattle.std.specs.Borrow.{Bor}
use Rattle.std.specs.Cmp.{first_so, second_so}
use Rattle.std.specs.Cmp.Lexicographic.{pointwise, same_text}
use Rattle.std.specs.Ordering.{nat_cmp, int_eq, eq_by_cmp}
use Rattle.std.specs.Prelude.{◌==◌, nat_eq}
use Rattle.cel_value.specs.Data.{KeyData, Data}
use Rattle.cel_value.specs.Keys.{key_order, key_view}
use Rattle.cel_value.specs.Same.{Shape, shape_of, Shapes, no_shapes, shape_and, entry_and, shape, same_shape, same_shapes, same}
use Rattle.cel_value.specs.SameLaws.{same-equiv}
use Rattle.cel_value.specs.View.{view}
use Rattle.cel_value.specs.declared.key.Key.{Key}
use Rattle.cel_value.specs.declared.value.Value.{Value}
use Rattle.cel_semantics.specs.Members.{key_of}
use Rattle.kube_functions_lists.specs.Hashed.{ByHash, held_at, AreTrue, HasHashesOf, among, or_same}
use Rattle.kube_functions_lists.specs.Hashes.{class_hash, key_hash, leaf_hash, mixed, shape_hash, with_shapes, hash}
use Rattle.kube_functions_lists.specs.Keyed.{HasKeysOf, key_cmp, key_data}
use Rattle.kube_functions_lists.specs.Lists.{with_new}
use Rattle.kube_functions_lists.specs.Sets.{is_in}
use Rattle.kube_functions_lists.proofs.ByKey.{differs, key_put, no_key_put, same_keys}
use Rattle.kube_functions_lists.proofs.Distinct.{among_more, among_same}

-- ---- equal values have the same hash

same_numbers : (ns ms : List ℤ) → pointwise int_eq ns ms ≡ true → ns ≡ ms
same_numbers [] [] h = refl
same_numbers [] (m ∷ ms) h = absurd (false≢true h)
same_numbers (n ∷ ns) [] h = absurd (false≢true h)
same_numbers (n ∷ ns) (m ∷ ms) h =
    let first = (Decides-int_eq n m).0 (first_so (int_eq n m) (pointwise int_eq ns ms) h) in
    let rest = same_numbers ns ms (second_so (int_eq n m) (pointwise int_eq ns ms) h) in
    λ i. first i ∷ rest i

-- what two shapes that are the same have in common
record Alike (k l : ℕ) (ns ms : List ℤ) (s t : List ℕ) (p q : Shapes) : Type 0 where
  class : k ≡ l
  numbers : ns ≡ ms
  text : s ≡ t
  parts : same_shapes p q ≡ true

alike : (k l : ℕ) (ns ms : List ℤ) (s t : List ℕ) (p q : Shapes) → same_shape (shape_of k ns s p) (shape_of l ms t q) ≡ true → Alike k l ns ms s t p q
alike k l ns ms s t p q h =
    let rest = second_so (k == l) (same_shapes p q && (pointwise int_eq ns ms && pointwise nat_eq s t)) h in
    let inside = second_so (same_shapes p q) (pointwise int_eq ns ms && pointwise nat_eq s t) rest in
    record {
      class = eqb-true k l (first_so (k == l) (same_shapes p q && (pointwise int_eq ns ms && pointwise nat_eq s t)) h);
      numbers = same_numbers ns ms (first_so (pointwise int_eq ns ms) (pointwise nat_eq s t) inside);
      text = same_text s t (sym (second_so (pointwise int_eq ns ms) (pointwise nat_eq s t) inside));
      parts = first_so (same_shapes p q) (pointwise int_eq ns ms && pointwise nat_eq s t) rest;
    }

leaf_same : (x y : Shape) → same_shape x y ≡ true → leaf_hash x ≡ leaf_hash y
leaf_same (shape_of k ns s p) (shape_of l ms t q) h =
    let a = alike k l ns ms s t p q h in
    λ i. class_hash (a.class i) (a.numbers i) (a.text i) (a.class i)

key_same : (k l : KeyData) → eq_by_cmp key_order k l ≡ true → key_hash k ≡ key_hash l
key_same k l h = leaf_same (shape (key_data k)) (shape (key_data l)) (same_keys k l ∙ h)

mutual
  shape_same : (x y : Shape) → same_shape x y ≡ true → shape_hash x ≡ shape_hash y
  shape_same (shape_of k ns s p) (shape_of l ms t q) h =
      let a = alike k l ns ms s t p q h in
      let parts = shapes_same k l p q a.class a.parts in
      λ i. class_hash (a.class i) (a.numbers i) (a.text i) (parts i)

  shapes_same : (g h : ℕ) (p q : Shapes) → g ≡ h → same_shapes p q ≡ true → with_shapes g p ≡ with_shapes h q
  shapes_same g h no_shapes no_shapes e s = e
  shapes_same g h no_shapes (shape_and y q) e s = absurd (false≢true s)
  shapes_same g h no_shapes (entry_and l y q) e s = absurd (false≢true s)
  shapes_same g h (shape_and x p) no_shapes e s = absurd (false≢true s)
  shapes_same g h (shape_and x p) (entry_and l y q) e s = absurd (false≢true s)
  shapes_same g h (entry_and k x p) no_shapes e s = absurd (false≢true s)
  shapes_same g h (entry_and k x p) (shape_and y q) e s = absurd (false≢true s)
  shapes_same g h (shape_and x p) (shape_and y q) e s =
      let first = shape_same x y (first_so (same_shape x y) (same_shapes p q) s) in
      shapes_same (mixed g (shape_hash x)) (mixed h (shape_hash y)) p q (λ i. mixed (e i) (first i)) (second_so (same_shape x y) (same_shapes p q) s)
  shapes_same g h (entry_and k x p) (entry_and l y q) e s =
      let rest = second_so (eq_by_cmp key_order k l) (same_shape x y && same_shapes p q) s in
      let key = key_same k l (first_so (eq_by_cmp key_order k l) (same_shape x y && same_shapes p q) s) in
      let first = shape_same x y (first_so (same_shape x y) (same_shapes p q) rest) in
      shapes_same (mixed (mixed g (key_hash k)) (shape_hash x)) (mixed (mixed h (key_hash l)) (shape_hash y)) p q
      (λ i. mixed (mixed (e i) (key i)) (first i)) (second_so (same_shape x y) (same_shapes p q) rest)

pub hash_same : (a b : Data) → same a b ≡ true → hash a ≡ hash b
hash_same a b h = shape_same (shape a) (shape b) h

-- ---- values by their hashes

or_true : (a : Bool) → (a || true) ≡ true
or_true true = refl
or_true false = refl

or_false : (a : Bool) → (a || false) ≡ a
or_false true = refl
or_false false = refl

or_left : (a b : Bool) → a ≡ true → (a || b) ≡ true
or_left a b h = ap (λ c. c || b) h

or_right : (a b : Bool) → a ≡ false → (a || b) ≡ true → b ≡ true
or_right a b h e = sym (ap (λ c. c || b) h) ∙ e

-- the value that is held at one more hash
one_more : (m n : ByHash) (g h : ℕ) (v : Bor Value) → Updates nat_cmp m n g (Some v) → held_at n h ≡ cond (eq_by_cmp nat_cmp g h) (Some v) (held_at m h)
one_more m n g h v up = up.0 h

pub true_of_one_more : (m n : ByHash) (v : Bor Value) → Updates nat_cmp m n (hash (view v.now)) (Some v)
    → (test : Data → Bool) → AreTrue m test → AreTrue n (or_same test (view v.now))
true_of_one_more m n v up test all h w held = at (eq_by_cmp nat_cmp (hash (view v.now)) h) refl
  where
    at : (b : Bool) → eq_by_cmp nat_cmp (hash (view v.now)) h ≡ b → or_same test (view v.now) (view w.now) ≡ true
    at true e =
        let is : Some v ≡ Some w = sym (ap (λ b. cond b (Some v) (held_at m h)) e) ∙ sym (one_more m n (hash (view v.now)) h v up) ∙ held in
        let it : v ≡ w = cc is in
        ap (λ b. test (view w.now) || b) (ap (λ x. same (view w.now) (view x.now)) it ∙ same-equiv.refl (view w.now)) ∙ or_true (test (view w.now))
    at false e =
        let is : held_at m h ≡ Some w = sym (ap (λ b. cond b (Some v) (held_at m h)) e) ∙ sym (one_more m n (hash (view v.now)) h v up) ∙ held in
        or_left (test (view w.now)) (same (view w.now) (view v.now)) (all h w is)

held_or_new : (b : Bool) (v : Bor Value) (o : Option (Bor Value)) → is_some o ≡ true → is_some (cond b (Some v) o) ≡ true
held_or_new true v o h = refl
held_or_new false v o h = h

same_number : (g h : ℕ) → g ≡ h → eq_by_cmp nat_cmp g h ≡ true
same_number g h e = ap (eq_by_cmp nat_cmp g) (sym e) ∙ (eq_by_cmp_equiv nat_cmp_total).refl g

pub hashes_of_one_more : (m n : ByHash) (v : Bor Value) → Updates nat_cmp m n (hash (view v.now)) (Some v)
    → (test : Data → Bool) → HasHashesOf m test → HasHashesOf n (or_same test (view v.now))
hashes_of_one_more m n v up test all d none among = at (test d) refl
  where
    g : ℕ
    g = hash (view v.now)

    at : (b : Bool) → test d ≡ b → is_some (held_at n (hash d)) ≡ true
    at true e =
        ap is_some (one_more m n g (hash d) v up) ∙ held_or_new (eq_by_cmp nat_cmp g (hash d)) v (held_at m (hash d)) (all d none e)
    at false e =
        let is : hash d ≡ g = hash_same d (view v.now) (or_right (test d) (same d (view v.now)) e among) in
        ap is_some (one_more m n g (hash d) v up) ∙ ap (λ b. is_some (cond b (Some v) (held_at m (hash d)))) (same_number g (hash d) (sym is))

-- a value that can be a key
pub true_with_key : (m : ByHash) (d : Data) (test : Data → Bool) → AreTrue m test → AreTrue m (or_same test d)
true_with_key m d test all h w held = or_left (test (view w.now)) (same (view w.now) d) (all h w held)

pub hashes_with_key : (m : ByHash) (k : KeyData) (d : Data) → Some k ≡ key_of d → (test : Data → Bool) → HasHashesOf m test → HasHashesOf m (or_same test d)
hashes_with_key m k d is test all e none among = at (test e) refl
  where
    at : (b : Bool) → test e ≡ b → is_some (held_at m (hash e)) ≡ true
    at true t = all e none t
    at false t = absurd (false≢true (sym (differs k d e is none) ∙ or_right (test e) (same e d) t among))

-- a value that equals one that is held
pub held_is_among : (m : ByHash) (items : List Value) (h : ℕ) (v : Bor Value) (d : Data) → AreTrue m (among items) → held_at m h ≡ Some v → same (view v.now) d ≡ true → among items d ≡ true
held_is_among m items h v d all held s = sym (among_same (view v.now) d s (map view items)) ∙ all h v held

-- ---- one more item

pub none_among : (items : List Value) → items ≡ [] → (d : Data) → among items d ≡ false
none_among items e d = ap (λ l. among l d) e

pub taken : (items : List Value) (i : ℕ) (x : Value) → i < length items → x ≡ get_or items i x
    → (e : Data) → or_same (among (take i items)) (view x) e ≡ among (take (i + 1) items) e
taken items i x low is e =
    sym (ap (λ l. is_in (map view l) e) (take_more items i x low) ∙ ap (λ l. is_in l e) (map-append view (take i items) (get_or items i x ∷ []))
    ∙ among_more (map view (take i items)) (view (get_or items i x)) e ∙ ap (λ y. is_in (map view (take i items)) e || same e (view y)) (sym is))

-- the items with one that was new, or without one that wasn't
pub kept_new : (ds : List Data) (x : Data) → (e : Data) → or_same (is_in ds) x e ≡ is_in (with_new ds x) e
kept_new ds x e = sym (at (is_in ds x) refl (same e x) refl)
  where
    at : (b : Bool) → is_in ds x ≡ b → (c : Bool) → same e x ≡ c → is_in (with_new ds x) e ≡ (is_in ds e || same e x)
    at true h true k = ap (λ b. is_in (cond b ds (ds ++ x ∷ [])) e) h ∙ among_same e x k ds ∙ h ∙ sym (or_true (is_in ds e)) ∙ ap (λ b. is_in ds e || b) (sym k)
    at true h false k = ap (λ b. is_in (cond b ds (ds ++ x ∷ [])) e) h ∙ sym (or_false (is_in ds e)) ∙ ap (λ b. is_in ds e || b) (sym k)
    at false h c k = ap (λ b. is_in (cond b ds (ds ++ x ∷ [])) e) h ∙ among_more ds x e

-- the items, if one more equals one of them
pub old_kept : (ds : List Data) (x : Data) → is_in ds x ≡ true → (e : Data) → or_same (is_in ds) x e ≡ is_in ds e
old_kept ds x h e = kept_new ds x e ∙ ap (λ b. is_in (cond b ds (ds ++ x ∷ [])) e) h

-- ---- what is known after one more value

abbrev Facts : BTreeSet Key → ByHash → (Data → Bool) → Type 0
Facts keys others test = HasKeysOf keys test × AreTrue others test × HasHashesOf others test

pub knows_key : (keys more : BTreeSet Key) (others : ByHash) (k : Key) (d : Data) → Some (key_view k) ≡ key_of d → sets.Updates key_cmp keys more k true
    → (test : Data → Bool) → Facts keys others test → Facts more others (or_same test d)
knows_key keys more others k d is up test facts =
    (key_put keys more k d is up test facts.0, true_with_key others d test facts.1, hashes_with_key others (key_view k) d is test facts.2)

pub knows_other : (keys : BTreeSet Key) (others more : ByHash) (h : ℕ) (v : Bor Value) → None ≡ key_of (view v.now) → h ≡ hash (view v.now) → Updates nat_cmp others more h (Some v)
    → (test : Data → Bool) → Facts keys others test → Facts keys more (or_same test (view v.now))
knows_other keys others more h v none is up test facts =
    let at_hash = subst (λ g. Updates nat_cmp others more g (Some v)) is up in
    (no_key_put keys (view v.now) none test facts.0, true_of_one_more others more v at_hash test facts.1, hashes_of_one_more others more v at_hash test facts.2)
