-- Looking values up by their keys.
use Rattle.std.proofs.Common.{◌≡◌, ℕ, Bool, true, false, cond, ◌&&◌, ◌||◌, Some, None, is_some, refl, ap, sym, ◌∙◌}
use Rattle.std.specs.Prelude.{◌==◌, nat_lt}
use Rattle.std.specs.BTreeSet.{BTreeSet, Updates}
use Rattle.std.specs.Cmp.Lexicographic.{texts_ties}
use Rattle.std.specs.Option.{option_map_or}
use Rattle.std.specs.Ordering.{is_eq, eq_by_cmp, ordering_then}
use Rattle.std.specs.declared.cmp.Ordering.{Ordering}
use Rattle.std.specs.declared.cmp.Ordering.TheVariants.{Less, Equal, Greater}
use Rattle.std.proofs.lemmas.Bool.{eqb-true}
use Rattle.cel_value.specs.Data.{KeyData, bool_key, int_key, uint_key, text_key, Data, null, bool, int, uint, double, text, bytes, list, map_of, timestamp, duration, optional, ip, cidr, quantity, semver, url, format}
use Rattle.cel_value.specs.Keys.{key_view, key_order}
use Rattle.cel_value.specs.Same.{Shape, shape_of, shape, class_of, same, same_shape}
use Rattle.cel_value.specs.SameLaws.{same-equiv}
use Rattle.cel_value.specs.declared.key.Key.{Key}
use Rattle.cel_semantics.specs.Members.{key_of}
use Rattle.kube_functions_lists.specs.Hashed.{or_same}
use Rattle.kube_functions_lists.specs.Keyed.{key_data, key_cmp, has_key, HasKeysOf}

-- ---- equality of keys

tested : (o : Ordering) → ((is_eq o && true) && true) ≡ is_eq (ordering_then o Equal)
tested Less = refl
tested Equal = refl
tested Greater = refl

pub same_keys : (k l : KeyData) → same (key_data k) (key_data l) ≡ eq_by_cmp key_order k l
same_keys (bool_key true) (bool_key true) = refl
same_keys (bool_key true) (bool_key false) = refl
same_keys (bool_key false) (bool_key true) = refl
same_keys (bool_key false) (bool_key false) = refl
same_keys (bool_key b) (int_key n) = refl
same_keys (bool_key b) (uint_key n) = refl
same_keys (bool_key b) (text_key s) = refl
same_keys (int_key n) (bool_key b) = refl
same_keys (int_key n) (int_key m) = tested _
same_keys (int_key n) (uint_key m) = tested _
same_keys (int_key n) (text_key s) = refl
same_keys (uint_key n) (bool_key b) = refl
same_keys (uint_key n) (int_key m) = tested _
same_keys (uint_key n) (uint_key m) = tested _
same_keys (uint_key n) (text_key s) = refl
same_keys (text_key s) (bool_key b) = refl
same_keys (text_key s) (int_key n) = refl
same_keys (text_key s) (uint_key n) = refl
same_keys (text_key s) (text_key t) = texts_ties s t

-- ---- values that can be keys

-- the classes of bools, numbers and strings
abbrev is_keyed : ℕ → Bool
is_keyed k = nat_lt 0 k && nat_lt k 4

abbrev class : Data → ℕ
class d = class_of (shape d)

key_keyed : (k : KeyData) → is_keyed (class (key_data k)) ≡ true
key_keyed (bool_key b) = refl
key_keyed (int_key n) = refl
key_keyed (uint_key n) = refl
key_keyed (text_key s) = refl

keyed : (d : Data) → is_keyed (class d) ≡ is_some (key_of d)
keyed null = refl
keyed (bool b) = refl
keyed (int n) = refl
keyed (uint n) = refl
keyed double = refl
keyed (text s) = refl
keyed (bytes s) = refl
keyed (list ds) = refl
keyed (map_of es) = refl
keyed (timestamp t o) = refl
keyed (duration n) = refl
keyed (optional ds) = refl
keyed (ip a) = refl
keyed (cidr c) = refl
keyed (quantity q) = refl
keyed (semver v) = refl
keyed (url u) = refl
keyed (format f) = refl

key_back : (d : Data) → option_map_or key_data (key_of d) d ≡ d
key_back null = refl
key_back (bool b) = refl
key_back (int n) = refl
key_back (uint n) = refl
key_back double = refl
key_back (text s) = refl
key_back (bytes s) = refl
key_back (list ds) = refl
key_back (map_of es) = refl
key_back (timestamp t o) = refl
key_back (duration n) = refl
key_back (optional ds) = refl
key_back (ip a) = refl
key_back (cidr c) = refl
key_back (quantity q) = refl
key_back (semver v) = refl
key_back (url u) = refl
key_back (format f) = refl

apart : (k l : ℕ) → is_keyed k ≡ true → is_keyed l ≡ false → (k == l) ≡ false
apart k l h g = at (k == l) refl
  where
    at : (b : Bool) → (k == l) ≡ b → (k == l) ≡ false
    at false e = e
    at true e = let no : true ≡ false = sym h ∙ ap is_keyed (eqb-true k l e) ∙ g in absurd (cc)

by_class : (x y : Shape) → (class_of x == class_of y) ≡ false → same_shape x y ≡ false
by_class (shape_of k ns s p) (shape_of l ms t q) h = rw h refl

-- a key equals no value that can't be a key
pub no_key : (k : KeyData) (d : Data) → None ≡ key_of d → same (key_data k) d ≡ false
no_key k d h = by_class (shape (key_data k)) (shape d) (apart (class (key_data k)) (class d) (key_keyed k) (keyed d ∙ ap is_some (sym h)))

pub its_key : (k : KeyData) (d : Data) → Some k ≡ key_of d → key_data k ≡ d
its_key k d h = ap (λ o. option_map_or key_data o d) h ∙ key_back d

-- ---- one more value

or_false : (a : Bool) → (a || false) ≡ a
or_false true = refl
or_false false = refl

or_cond : (a b : Bool) → cond a true b ≡ (b || a)
or_cond true true = refl
or_cond true false = refl
or_cond false true = refl
or_cond false false = refl

-- a key that was put into the set
pub key_put : (s n : BTreeSet Key) (k : Key) (d : Data) → Some (key_view k) ≡ key_of d → Updates key_cmp s n k true
    → (test : Data → Bool) → HasKeysOf s test → HasKeysOf n (or_same test d)
key_put s n k d is up test has q =
    up.0 q ∙ or_cond (eq_by_cmp key_order (key_view k) (key_view q)) (has_key s q)
    ∙ ap (λ b. has_key s q || b)
    (sym (same_keys (key_view k) (key_view q)) ∙ ap (λ e. same e (key_data (key_view q))) (its_key (key_view k) d is) ∙ same-equiv.symm d (key_data (key_view q)))
    ∙ ap (λ b. b || same (key_data (key_view q)) d) (has q)

-- a value that can't be a key
pub no_key_put : (s : BTreeSet Key) (d : Data) → None ≡ key_of d → (test : Data → Bool) → HasKeysOf s test → HasKeysOf s (or_same test d)
no_key_put s d is test has q =
    has q ∙ sym (ap (λ b. test (key_data (key_view q)) || b) (no_key (key_view q) d is) ∙ or_false (test (key_data (key_view q))))

-- a key equals no value that can't be a key
pub differs : (k : KeyData) (d e : Data) → Some k ≡ key_of d → key_of e ≡ None → same e d ≡ false
differs k d e is none =
    same-equiv.symm e d ∙ ap (λ x. same x e) (sym (its_key k d is)) ∙ no_key k e (sym none)
