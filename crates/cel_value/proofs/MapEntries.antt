-- Maps, and their entries as contracts see them.
use Rattle.std.proofs.Common.{◌≡◌, Bool, true, false, cond, if◌then◌else◌, Bor, option_copied, List, [], ◌∷◌, Option, Some, None, option_map, Ordering, Less, Equal, Greater, refl, ◌∙◌}
use Rattle.std.specs.Map.{lookup}
use Rattle.std.specs.Ordering.{match_ordering}
use Rattle.std.specs.BTreeMap.{insert_entry, is_at}
use Rattle.cel_value.specs.Data.{Data}
use Rattle.cel_value.specs.Find.{find}
use Rattle.cel_value.specs.Keys.{key_view, put}
pub use Rattle.cel_value.specs.Keys.{key_cmp}
use Rattle.cel_value.specs.View.{view, entries_view}
use Rattle.cel_value.specs.declared.key.Key.{Key}
use Rattle.cel_value.specs.declared.value.Value.{Value}

abbrev pub Entry : Type 0
Entry = Key × Value

entries_view-match_ordering : (o : Ordering) (a b c : List Entry) → entries_view (match_ordering o a b c) ≡ match_ordering o (entries_view a) (entries_view b) (entries_view c)
entries_view-match_ordering Less a b c = refl
entries_view-match_ordering Equal a b c = refl
entries_view-match_ordering Greater a b c = refl

pub entries_view-insert_entry : (es : List Entry) (k : Key) (v : Value) → entries_view (insert_entry key_cmp es k v) ≡ put (key_view k) (view v) (entries_view es)
entries_view-insert_entry [] k v = refl
entries_view-insert_entry (e ∷ es) k v = entries_view-match_ordering (key_cmp k e.0) _ _ _ ∙ rw (entries_view-insert_entry es k v)

find-cond : (b : Bool) (v : Value) (o : Option Value) (p : Option Data) → option_map view o ≡ p → option_map view (cond b (Some v) o) ≡ (if b then Some (view v) else p)
find-cond true v o p h = refl
find-cond false v o p h = h

pub find-lookup : (k : Key) (es : List Entry) → option_map view (lookup (is_at (key_cmp k)) es) ≡ find (key_view k) (entries_view es)
find-lookup k [] = refl
find-lookup k (e ∷ es) = find-cond (is_at (key_cmp k) e.0) e.1 _ _ (find-lookup k es)

pub view-copied : (r : Option (Bor Value)) → option_map (λ v. view v.now) r ≡ option_map view (option_copied r)
view-copied None = refl
view-copied (Some v) = refl
