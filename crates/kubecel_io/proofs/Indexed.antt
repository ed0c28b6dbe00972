-- Old objects by an index.
use Rattle.kubecel_io.specs.Objects.{IdentityData, identity_of, is_same, first_same}
use Rattle.kubecel_io.specs.Index.{first_from, has_text, identity_text}
use Rattle.kubecel_io.specs.Subjects.{subject_view}
use Rattle.kubecel_io.specs.declared.subject.Subject.{Subject}
use Rattle.serde_json.specs.Data.{Data}
use Rattle.serde_json.specs.View.{view}
use Rattle.std.proofs.Common.{◌≡◌, ◌<◌, ◌≤◌, ℕ, suc, ◌+◌, ◌-◌, List, [], ◌∷◌, ◌++◌, ◌&&◌, Bool, true, false, cond, drop, get_or, length, map, option_map, Option, Some, None, codes, String, string_bytes, refl, sym, ap, subst, arith, ◌∙◌}
use Rattle.std.proofs.lemmas.List.{at_drop_more}
use Rattle.std.proofs.lemmas.Map.Text.{btree_map_updates_text}
use Rattle.std.proofs.lemmas.Option.{get_or_from_slice_get, slice_get-map, slice_get_read, slice_get_within}
use Rattle.std.proofs.lemmas.Slice.Eq.{bytes_eq-Decides}
use Rattle.std.specs.BTreeMap.{BTreeMap, UpdatesBy, get_by_text}
use Rattle.std.specs.List.{find, slice_get}
use Rattle.std.specs.Str.{bytes_eq}
use Rattle.std.specs.String.{string_cmp}
use Rattle.std.specs.declared.alloc.Global.{Global}

-- what is found by a test is found by a stronger one, if that holds of it; and what isn't, isn't
module _ {A : Type 0} (p q : A → Bool) (weaker : (x : A) → p x ≡ true → q x ≡ true) where
  found_by : (xs : List A) (y : A) → find q xs ≡ Some y → p y ≡ true → find p xs ≡ Some y
  found_by [] y e h = cc
  found_by (x ∷ xs) y e h = by (q x) (p x) refl refl e (λ g. found_by xs y g h)
    where
      by : (b d : Bool) → q x ≡ b → p x ≡ d → cond b (Some x) (find q xs) ≡ Some y → (find q xs ≡ Some y → find p xs ≡ Some y) → cond d (Some x) (find p xs) ≡ Some y
      by true true s t g r = g
      by true false s t g r = let same : x ≡ y = cc in let no : false ≡ true = sym t ∙ ap p same ∙ h in cc
      by false true s t g r = let no : false ≡ true = sym s ∙ weaker x t in cc
      by false false s t g r = r g

  nowhere_by : (xs : List A) → find q xs ≡ None → find p xs ≡ None
  nowhere_by [] e = refl
  nowhere_by (x ∷ xs) e = by (q x) (p x) refl refl e (λ g. nowhere_by xs g)
    where
      by : (b d : Bool) → q x ≡ b → p x ≡ d → cond b (Some x) (find q xs) ≡ None → (find q xs ≡ None → find p xs ≡ None) → cond d (Some x) (find p xs) ≡ None
      by true d s t g r = cc
      by false true s t g r = let no : false ≡ true = sym s ∙ weaker x t in cc
      by false false s t g r = r g

and_left : (a b : Bool) → (a && b) ≡ true → a ≡ true
and_left true b e = refl
and_left false b e = cc

and_right : (a b : Bool) → (a && b) ≡ true → b ≡ true
and_right true b e = e
and_right false b e = cc

-- objects of one identity have one text
same_text : (a b : IdentityData) → is_same a b ≡ true → identity_text a ≡ identity_text b
same_text a b e =
    let name : a.name ≡ b.name = (bytes_eq-Decides a.name b.name).0 (and_left (bytes_eq a.name b.name) _ e) in
    let rest = and_right (bytes_eq a.name b.name) _ e in
    let namespace : a.namespace ≡ b.namespace = (bytes_eq-Decides a.namespace b.namespace).0 (and_left (bytes_eq a.namespace b.namespace) _ rest) in
    let others = and_right (bytes_eq a.namespace b.namespace) _ rest in
    let kind : a.kind ≡ b.kind = (bytes_eq-Decides a.kind b.kind).0 (and_left (bytes_eq a.kind b.kind) _ others) in
    let group : a.group ≡ b.group = (bytes_eq-Decides a.group b.group).0 (and_right (bytes_eq a.kind b.kind) _ others) in
    rw (name, namespace, kind, group) refl

has_the_text : (d o : Data) → is_same (identity_of o) (identity_of d) ≡ true → has_text (identity_text (identity_of d)) o ≡ true
has_the_text d o e = (bytes_eq-Decides (identity_text (identity_of o)) (identity_text (identity_of d))).1 (same_text (identity_of o) (identity_of d) e)

old_found : (olds : List Data) (d o : Data) → find (has_text (identity_text (identity_of d))) olds ≡ Some o → is_same (identity_of o) (identity_of d) ≡ true → first_same olds d ≡ Some o
old_found olds d o e h = found_by (λ x. is_same (identity_of x) (identity_of d)) (has_text (identity_text (identity_of d))) (has_the_text d) olds o e h

old_nowhere : (olds : List Data) (d : Data) → find (has_text (identity_text (identity_of d))) olds ≡ None → first_same olds d ≡ None
old_nowhere olds d e = nowhere_by (λ x. is_same (identity_of x) (identity_of d)) (has_text (identity_text (identity_of d))) (has_the_text d) olds e

-- the object with the number that is found
at_number : (k : List ℕ) (m : ℕ) (ds : List Data) (n : ℕ) → first_from k m ds ≡ Some n → (m ≤ n) × (find (has_text k) ds ≡ slice_get ds (n - m))
at_number k m [] n e = absurd cc
at_number k m (d ∷ ds) n e = by (has_text k d) refl e (λ g. at_number k (m + 1) ds n g)
  where
    by : (b : Bool) → has_text k d ≡ b → cond b (Some m) (first_from k (m + 1) ds) ≡ Some n
        → (first_from k (m + 1) ds ≡ Some n → (m + 1 ≤ n) × (find (has_text k) ds ≡ slice_get ds (n - (m + 1)))) → (m ≤ n) × (cond b (Some d) (find (has_text k) ds) ≡ slice_get (d ∷ ds) (n - m))
    by true s g r =
        let same : m ≡ n = cc in
        let here : n - m ≡ 0 = omega (arith, same) in
        (omega (arith, same), sym (ap (slice_get (d ∷ ds)) here))
    by false s g r =
        let later = r g in
        let next : n - m ≡ suc (n - (m + 1)) = omega (arith, later.0) in
        (omega (arith, later.0), later.1 ∙ sym (ap (slice_get (d ∷ ds)) next))

no_number : (k : List ℕ) (m : ℕ) (ds : List Data) → first_from k m ds ≡ None → find (has_text k) ds ≡ None
no_number k m [] e = refl
no_number k m (d ∷ ds) e = by (has_text k d) refl e (λ g. no_number k (m + 1) ds g)
  where
    by : (b : Bool) → has_text k d ≡ b → cond b (Some m) (first_from k (m + 1) ds) ≡ None → (first_from k (m + 1) ds ≡ None → find (has_text k) ds ≡ None) → cond b (Some d) (find (has_text k) ds) ≡ None
    by true s g r = cc
    by false s g r = r g

-- by the index: the object whose number it gives, if that has the identity
pub old_by_number : (olds : List Data) (d o : Data) (k : List ℕ) (n : ℕ) → k ≡ identity_text (identity_of d) → first_from k 0 olds ≡ Some n → slice_get olds n ≡ Some o
    → is_same (identity_of o) (identity_of d) ≡ true → first_same olds d ≡ Some o
old_by_number olds d o k n same e at h =
    let none : n - 0 ≡ n = omega arith in
    let found : find (has_text k) olds ≡ Some o = (at_number k 0 olds n e).1 ∙ ap (slice_get olds) none ∙ at in
    old_found olds d o (subst (λ t. find (has_text t) olds ≡ Some o) same found) h

-- and none, if it gives no number
pub no_old_by_number : (olds : List Data) (d : Data) (k : List ℕ) → k ≡ identity_text (identity_of d) → first_from k 0 olds ≡ None → first_same olds d ≡ None
no_old_by_number olds d k same e = old_nowhere olds d (subst (λ t. find (has_text t) olds ≡ None) same (no_number k 0 olds e))

-- ---- making the index

-- the value of the object with a number
pub value_at : (xs : List Subject) (i : ℕ) (x : Subject) → i < length xs → x ≡ get_or xs i x → slice_get (map (λ f. f.value) (map subject_view xs)) i ≡ Some (view x.value.now)
value_at xs i x below is =
    slice_get-map (λ f. f.value) (map subject_view xs) i ∙ ap (option_map (λ f. f.value)) (slice_get-map subject_view xs i)
    ∙ ap (λ o. option_map (λ f. f.value) (option_map subject_view o)) (slice_get_read xs (length xs) i x refl below is)

-- the object before those of the index
pub one_more_indexed : (xs : List Subject) (i n : ℕ) (x : Subject) (key : String Global) (old new : BTreeMap (String Global) ℕ) → i + 1 ≡ n → i < length xs → x ≡ get_or xs i x
    → string_bytes key ≡ identity_text (identity_of (view x.value.now)) → UpdatesBy string_cmp (string_cmp key) old new (Some i)
    → ((k : List ℕ) → get_by_text old k ≡ first_from k n (drop n (map (λ f. f.value) (map subject_view xs))))
    → (k : List ℕ) → get_by_text new k ≡ first_from k i (drop i (map (λ f. f.value) (map subject_view xs)))
one_more_indexed xs i n x key old new next below is text updates indexed k =
    let ds = map (λ f. f.value) (map subject_view xs) in
    let d = view x.value.now in
    let at = value_at xs i x below is in
    let within : i < length ds = slice_get_within ds i d at in
    let here : first_from k i (drop i ds) ≡ cond (has_text k d) (Some i) (first_from k (i + 1) (drop (i + 1) ds)) =
    at_drop_more (first_from k i) ds i d within ∙ ap (λ y. first_from k i (y ∷ drop (i + 1) ds)) (get_or_from_slice_get ds i d d at) in
    btree_map_updates_text (string_bytes key) old new (Some i) updates k
    ∙ ap (λ t. cond (bytes_eq t k) (Some i) (get_by_text old k)) text
    ∙ ap (cond (has_text k d) (Some i)) (indexed k ∙ ap (λ m. first_from k m (drop m ds)) (sym next))
    ∙ sym here
