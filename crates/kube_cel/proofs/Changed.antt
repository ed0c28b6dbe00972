-- The members and items of a value of which one part was changed.
use Rattle.std.proofs.Common.{◌≡◌, ◌==◌, ℕ, zero, suc, List, ◌∷◌, Bool, false, if◌then◌else◌, Option, Some, None, option_map, refl, sym, ap, ◌∙◌, Ordering, Less, Equal, Greater}
use Rattle.std.specs.Ordering.{match_ordering}
use lib.Dec.{eqb-zero-suc, eqb-suc-zero, eqb-suc-suc}
use Rattle.std.specs.Str.{bytes_eq}
use Rattle.serde_json.specs.Data.{Data, null, boolean, number, string, array, object, Items, no_items, item, Members, no_members, member}
use Rattle.serde_json.specs.Events.{items_len}
use Rattle.serde_json.specs.Find.{at, get, get_item, get_member}
use Rattle.kube_schema_rules.proofs.Sorted.{key_cmp, same_key}
use Rattle.kube_schema.specs.DefaultsAccessors.{keys_in as names_in}
use Rattle.kube_cel.specs.Added.{members_with, items_with, with_key, with_index}

-- ---- look-ups

-- f applied if the test is true
abbrev pub where_true : Bool → (Data → Data) → Data → Data
where_true b f d = if b then f d else d

pub get_member_changed : (k l : List ℕ) (f : Data → Data) (ms : Members) → get_member l (members_with k f ms) ≡ option_map (where_true (bytes_eq k l) f) (get_member l ms)
get_member_changed k l f no_members = refl
get_member_changed k l f (member m d ms) = by (key_cmp l m) refl (get_member_changed k l f ms)
  where
    by : (o : Ordering) → key_cmp l m ≡ o → get_member l (members_with k f ms) ≡ option_map (where_true (bytes_eq k l) f) (get_member l ms)
        → match_ordering o (get_member l (members_with k f ms)) (Some (where_true (bytes_eq k m) f d)) (get_member l (members_with k f ms))
        ≡ option_map (where_true (bytes_eq k l) f) (match_ordering o (get_member l ms) (Some d) (get_member l ms))
    by Less e r = r
    by Equal e r = ap (λ n. Some (where_true (bytes_eq k n) f d)) (sym (same_key l m e))
    by Greater e r = r

pub get_changed : (k l : List ℕ) (f : Data → Data) (d : Data) → get l (with_key k f d) ≡ option_map (where_true (bytes_eq k l) f) (get l d)
get_changed k l f null = refl
get_changed k l f (boolean b) = refl
get_changed k l f (number n) = refl
get_changed k l f (string s) = refl
get_changed k l f (array ds) = refl
get_changed k l f (object ms) = get_member_changed k l f ms

unchanged : (b : Bool) (f : Data → Data) (o : Option Data) → b ≡ false → o ≡ option_map (where_true b f) o
unchanged b f None e = refl
unchanged b f (Some d) e = ap (λ b. Some (where_true b f d)) (sym e)

pub item_changed : (i j : ℕ) (f : Data → Data) (ds : Items) → get_item j (items_with i f ds) ≡ option_map (where_true (i == j) f) (get_item j ds)
item_changed i j f no_items = refl
item_changed zero zero f (item d ds) = refl
item_changed zero (suc j) f (item d ds) = unchanged (0 == suc j) f (get_item j ds) (eqb-zero-suc j)
item_changed (suc i) zero f (item d ds) = unchanged (suc i == 0) f (Some d) (eqb-suc-zero i)
item_changed (suc i) (suc j) f (item d ds) = item_changed i j f ds ∙ ap (λ b. option_map (where_true b f) (get_item j ds)) (sym (eqb-suc-suc i j))

pub at_changed : (i j : ℕ) (f : Data → Data) (d : Data) → at j (with_index i f d) ≡ option_map (where_true (i == j) f) (at j d)
at_changed i j f null = refl
at_changed i j f (boolean b) = refl
at_changed i j f (number n) = refl
at_changed i j f (string s) = refl
at_changed i j f (array ds) = item_changed i j f ds
at_changed i j f (object ms) = refl

-- ---- what stays

pub names_stay : (k : List ℕ) (f : Data → Data) (ms : Members) → names_in (members_with k f ms) ≡ names_in ms
names_stay k f no_members = refl
names_stay k f (member l d ms) = ap (λ ls. l ∷ ls) (names_stay k f ms)

pub length_stays : (i : ℕ) (f : Data → Data) (ds : Items) → items_len (items_with i f ds) ≡ items_len ds
length_stays i f no_items = refl
length_stays zero f (item d ds) = refl
length_stays (suc i) f (item d ds) = ap suc (length_stays i f ds)
