-- Sets of texts, and lists of elements with one more.
use Rattle.std.proofs.Common.{◌≡◌, ℕ, List, [], ◌∷◌, ◌++◌, Bool, true, false, ◌||◌, cond, refl, sym, ap, ◌∙◌, String, string_bytes}
use Rattle.std.proofs.lemmas.Map.Text.{btree_set_updates_text}
use Rattle.std.proofs.lemmas.Slice.Eq.{bytes_eq-Decides}
use Rattle.std.specs.BTreeSet.{BTreeSet, UpdatesBy, contains_text}
use Rattle.std.specs.Cmp.Lexicographic.{slice_cmp}
use Rattle.std.specs.List.{list_any}
use Rattle.std.specs.Ordering.{nat_cmp}
use Rattle.std.specs.Str.{bytes_eq}
use Rattle.std.specs.String.{string_cmp}
use Rattle.std.specs.declared.alloc.Global.{Global}

same_bool : (a b : Bool) → (a ≡ true → b ≡ true) → (b ≡ true → a ≡ true) → a ≡ b
same_bool true b h g = sym (h refl)
same_bool false true h g = g refl
same_bool false false h g = refl

bytes_eq_flip : (x y : List ℕ) → bytes_eq x y ≡ bytes_eq y x
bytes_eq_flip x y = same_bool (bytes_eq x y) (bytes_eq y x)
    (λ h. (bytes_eq-Decides y x).1 (sym ((bytes_eq-Decides x y).0 h)))
    (λ h. (bytes_eq-Decides x y).1 (sym ((bytes_eq-Decides y x).0 h)))

or_of_cond : (e s : Bool) → cond e true s ≡ (s || e)
or_of_cond true true = refl
or_of_cond true false = refl
or_of_cond false true = refl
or_of_cond false false = refl

-- a set with one more text
pub inserted : (text : List ℕ) (s n : BTreeSet (String Global)) (key : List ℕ) → key ≡ text
    → UpdatesBy string_cmp (λ k. slice_cmp nat_cmp key (string_bytes k)) s n true
    → (x : List ℕ) → contains_text n x ≡ (contains_text s x || bytes_eq x text)
inserted text s n key is u x =
    btree_set_updates_text key s n true u x ∙ or_of_cond (bytes_eq key x) (contains_text s x)
    ∙ ap (λ e. contains_text s x || e) (bytes_eq_flip key x ∙ ap (bytes_eq x) is)

no_change : (c e : Bool) → (e ≡ true → c ≡ true) → c ≡ (c || e)
no_change true e h = refl
no_change false true h = h refl
no_change false false h = refl

-- adding a text that is there changes nothing
pub already_there : (text : List ℕ) (s : BTreeSet (String Global)) → contains_text s text ≡ true → (x : List ℕ) → contains_text s x ≡ (contains_text s x || bytes_eq x text)
already_there text s there x = no_change (contains_text s x) (bytes_eq x text) (λ e. ap (contains_text s) ((bytes_eq-Decides x text).0 e) ∙ there)

or_assoc : (a b c : Bool) → (a || (b || c)) ≡ ((a || b) || c)
or_assoc true b c = refl
or_assoc false b c = refl

pub or_none : (a : Bool) → (a || false) ≡ a
or_none true = refl
or_none false = refl

-- one more element
pub any_more : {A : Type 0} (p : A → Bool) (xs : List A) (y : A) → list_any p (xs ++ y ∷ []) ≡ (list_any p xs || p y)
any_more p [] y = or_none (p y)
any_more p (x ∷ xs) y = ap (λ c. p x || c) (any_more p xs y) ∙ or_assoc (p x) (list_any p xs) (p y)
