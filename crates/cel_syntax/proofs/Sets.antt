-- Sets of names.
use Rattle.std.proofs.Common.{◌≡◌, ℕ, List, [], ◌∷◌, map, Bool, true, false, ◌||◌, ◌&&◌, not, cond, refl, sym, ap, ◌∙◌, String, string_bytes, Less}
use Rattle.std.proofs.Math.Path.{transport}
use Rattle.std.proofs.lemmas.Map.Text.{btree_set_updates_text, is_eq-slice_cmp}
use Rattle.std.proofs.lemmas.Slice.Eq.{bytes_eq-Decides}
use Rattle.std.specs.BTreeMap.{is_at}
use Rattle.std.specs.BTreeSet.{BTreeSet, contains_text, UpdatesBy}
use Rattle.std.specs.Cmp.Lexicographic.{slice_cmp}
use Rattle.std.specs.List.{list_any, AllByRecursion}
use Rattle.std.specs.List.Sorted.{IsStrictlySortedBy}
use Rattle.std.specs.Ordering.{nat_cmp}
use Rattle.std.specs.Str.{bytes_eq}
use Rattle.std.specs.String.{string_cmp}
use Rattle.std.specs.declared.alloc.Global.{Global}
use Rattle.cel_syntax.specs.Names.{names_of, AreNames}

same_bool : (a b : Bool) → (a ≡ true → b ≡ true) → (b ≡ true → a ≡ true) → a ≡ b
same_bool true b h g = sym (h refl)
same_bool false true h g = g refl
same_bool false false h g = refl

pub bytes_eq_flip : (x y : List ℕ) → bytes_eq x y ≡ bytes_eq y x
bytes_eq_flip x y = same_bool (bytes_eq x y) (bytes_eq y x)
    (λ h. (bytes_eq-Decides y x).1 (sym ((bytes_eq-Decides x y).0 h)))
    (λ h. (bytes_eq-Decides x y).1 (sym ((bytes_eq-Decides y x).0 h)))

or_of_cond : (e s : Bool) → cond e true s ≡ (s || e)
or_of_cond true true = refl
or_of_cond true false = refl
or_of_cond false true = refl
or_of_cond false false = refl

-- a set with one more name
pub inserted : (name : List ℕ) (s n : BTreeSet (String Global)) (key : List ℕ) → key ≡ name
    → UpdatesBy string_cmp (λ k. slice_cmp nat_cmp key (string_bytes k)) s n true
    → (x : List ℕ) → contains_text n x ≡ (contains_text s x || bytes_eq x name)
inserted name s n key is u x =
    btree_set_updates_text key s n true u x ∙ or_of_cond (bytes_eq key x) (contains_text s x)
    ∙ ap (λ e. contains_text s x || e) (bytes_eq_flip key x ∙ ap (bytes_eq x) is)

no_change : (c e : Bool) → (e ≡ true → c ≡ true) → c ≡ (c || e)
no_change true e h = refl
no_change false true h = h refl
no_change false false h = refl

-- adding a name that is there changes nothing
pub already_there : (name : List ℕ) (s : BTreeSet (String Global)) → contains_text s name ≡ true → (x : List ℕ) → contains_text s x ≡ (contains_text s x || bytes_eq x name)
already_there name s there x = no_change (contains_text s x) (bytes_eq x name) (λ e. ap (contains_text s) ((bytes_eq-Decides x name).0 e) ∙ there)

less_than_all : (k : String Global) (ks : List (String Global)) → AllByRecursion (λ y. string_cmp k y ≡ Less) ks
    → AllByRecursion (λ y. slice_cmp nat_cmp (string_bytes k) y ≡ Less) (map string_bytes ks)
less_than_all k [] h = h
less_than_all k (l ∷ ls) h = (h.0, less_than_all k ls h.1)

names_ascend : (ks : List (String Global)) → IsStrictlySortedBy string_cmp ks → IsStrictlySortedBy (slice_cmp nat_cmp) (map string_bytes ks)
unfolding IsStrictlySortedBy
names_ascend [] h = h
names_ascend (k ∷ ks) h = (less_than_all k ks h.0, names_ascend ks h.1)

names_found : (x : List ℕ) (ks : List (String Global)) → list_any (bytes_eq x) (map string_bytes ks) ≡ list_any (is_at (λ k. slice_cmp nat_cmp x (string_bytes k))) ks
names_found x [] = refl
names_found x (k ∷ ks) = ap (λ e. e || list_any (bytes_eq x) (map string_bytes ks)) (sym (is_eq-slice_cmp x (string_bytes k)))
    ∙ ap (λ e. is_at (λ l. slice_cmp nat_cmp x (string_bytes l)) k || e) (names_found x ks)

-- the keys of a set are its names
pub are_names : (s : BTreeSet (String Global)) (ks : List (String Global)) → IsStrictlySortedBy string_cmp s.keys → ks ≡ s.keys
    → AreNames (names_of ks) (λ x. contains_text s x)
are_names s ks ordered is = record {
  ascending = names_ascend ks (transport (ap (λ l. IsStrictlySortedBy string_cmp l) (sym is)) ordered);
  exactly = λ x. names_found x ks ∙ ap (list_any (is_at (λ k. slice_cmp nat_cmp x (string_bytes k)))) is;
}

or_false : (s : Bool) → s ≡ (s || false)
or_false true = refl
or_false false = refl

none_more : (name x : List ℕ) (bs : List (List ℕ)) (s e : Bool) → (e ≡ true → x ≡ name) → list_any (bytes_eq name) bs ≡ true → s ≡ (s || (e && not (list_any (bytes_eq x) bs)))
none_more name x bs s true h is = or_false s ∙ ap (λ c. s || not c) (sym (ap (λ y. list_any (bytes_eq y) bs) (h refl) ∙ is))
none_more name x bs s false h is = or_false s

-- adding a bound name changes nothing
pub bound_adds_nothing : (name x : List ℕ) (bs : List (List ℕ)) (s : Bool) → list_any (bytes_eq name) bs ≡ true → s ≡ (s || (bytes_eq x name && not (list_any (bytes_eq x) bs)))
bound_adds_nothing name x bs s is = none_more name x bs s (bytes_eq x name) ((bytes_eq-Decides x name).0) is

one_more : (name x : List ℕ) (bs : List (List ℕ)) (s e : Bool) → (e ≡ true → x ≡ name) → list_any (bytes_eq name) bs ≡ false → (s || e) ≡ (s || (e && not (list_any (bytes_eq x) bs)))
one_more name x bs s true h is = ap (λ c. s || not c) (sym (ap (λ y. list_any (bytes_eq y) bs) (h refl) ∙ is))
one_more name x bs s false h is = refl

-- another name is added
pub other_adds_itself : (name x : List ℕ) (bs : List (List ℕ)) (s n : Bool) → list_any (bytes_eq name) bs ≡ false → n ≡ (s || bytes_eq x name) → n ≡ (s || (bytes_eq x name && not (list_any (bytes_eq x) bs)))
other_adds_itself name x bs s n is e = e ∙ one_more name x bs s (bytes_eq x name) ((bytes_eq-Decides x name).0) is

-- names with a property are names with an equal property
pub same_names : (ns : List (List ℕ)) (p q : List ℕ → Bool) → AreNames ns p → ((x : List ℕ) → p x ≡ q x) → AreNames ns q
same_names ns p q h e = record { ascending = h.ascending; exactly = λ x. h.exactly x ∙ e x }

-- what is in a set that started empty
pub from_none : (s n : BTreeSet (String Global)) (q : Bool) (x : List ℕ) → s.keys ≡ [] → contains_text n x ≡ (contains_text s x || q) → contains_text n x ≡ q
from_none s n q x none e = e ∙ ap (λ ks. list_any (is_at (λ k. slice_cmp nat_cmp x (string_bytes k))) ks || q) none
