-- Filling a value, step by step, by a schema in either form.
use Rattle.std.proofs.Common.{◌≡◌, ◌≢◌, ◌≤◌, ◌-◌, ℕ, suc, List, [], ◌∷◌, ◌++◌, Bool, true, false, is_some, length, take, map, take_all, string_bytes, string_cmp, nat_cmp, Option, Some, None, option_map, String, Global, Vec, BTreeMap, sym, ap, ◌∙◌, subst, append_assoc, append-nil, arith}
use Rattle.std.specs.BTreeMap.{insert_entry, is_at}
use Rattle.std.specs.Cmp.Lexicographic.{slice_cmp}
use Rattle.std.specs.List.Sorted.{IsStrictlySortedBy}
use Rattle.std.specs.Map.{keys_of, lookup}
use Rattle.serde_json.specs.Data.{Data, array, object, put, Items, Members}
use Rattle.serde_json.specs.Find.{as_object, as_array}
use Rattle.serde_json.specs.View.{view, items_view, items_of, members_view}
use Rattle.serde_json.specs.declared.value.Value.{Value, Array, Object}
use Rattle.serde_json.proofs.Views.{Entry, members_view-insert_entry, view-Array, view-Object}
use Rattle.kube_schema_values.specs.DefaultsAccessors.{DefaultsAccessors}
use Rattle.kube_schema_values.specs.Defaults.{put_new, map_items, map_members, with_defaults, default_by, member_by, object_by, defaulted_value}
use Rattle.kube_schema_values.proofs.Fills.{filled_past, filled_object, filled_array, filled_plain, filled_alone, map_items_is, put_none, put_there, put_here, found_there}
use Rattle.kube_schema_values.proofs.InOrder.{put_mapped}

-- ---- what is returned for a value

module _ {S : Type 0} (accessors : DefaultsAccessors S) (k : ℕ) (s : S) (v : Data) where
  pub level_object : (ms : Members) (m : BTreeMap (String Global) Value) → k ≢ 0 → Some ms ≡ as_object v → members_view m.entries ≡ object_by accessors (defaulted_value accessors (k - 1)) s ms → view (Object m) ≡ defaulted_value accessors k s v
  level_object ms m some o e =
      let next : k ≡ suc (k - 1) = omega arith in
      view-Object m ∙ ap object e ∙ sym (filled_object accessors k (k - 1) s v ms next o)

  pub level_array : (p : S) (ds : Items) (vs : Vec Value Global) → k ≢ 0 → Some ds ≡ as_array v → Some p ≡ accessors.items s → items_view vs.items ≡ map_items (defaulted_value accessors (k - 1) p) ds → view (Array vs) ≡ defaulted_value accessors k s v
  level_array p ds vs some a at e =
      let next : k ≡ suc (k - 1) = omega arith in
      view-Array vs ∙ ap array e ∙ sym (filled_array accessors k (k - 1) s p v ds next a at)

-- each return for one level
pub ruleset levels = (filled_past, filled_plain, filled_alone, level_object, level_array)

-- ---- in a loop over the items of a list

module _ (f : Data → Data) (vs read : List Value) (i : ℕ) where
  pub items_mapped : (filled : List Value) → map view filled ≡ map (λ v. f (view v)) (take i read) → length read ≤ i → read ≡ vs → items_view filled ≡ map_items f (items_view vs)
  items_mapped filled e past same =
      ap items_of (e ∙ ap (map (λ v. f (view v))) (take_all i read past ∙ same)) ∙ sym (map_items_is f vs)

  pub items_stay : map (λ v. f (view v)) (take i read) ≡ map view (take i read) → length read ≤ i → read ≡ vs → map_items f (items_view vs) ≡ items_view vs
  items_stay e past same =
      let all : take i read ≡ vs = take_all i read past ∙ same in
      map_items_is f vs ∙ ap items_of (ap (map (λ v. f (view v))) (sym all) ∙ e ∙ ap (map view) all)

-- ---- in a loop over the entries of a map

-- out holds what the entries before those that are left become
abbrev pub Mapped : (List ℕ → Data → Data) → List Entry → List Entry → Members → Type 0
Mapped f es left out = record {
  done : List Entry;
  all : es ≡ done ++ left;
  same : out ≡ map_members f (members_view done);
}

module _ (f : List ℕ → Data → Data) (es left : List Entry) where
  pub mapped_next : (rest before after : List Entry) (e : Entry) (key : List ℕ) (name : String Global) (value : Value) → Mapped f es left (members_view before) → IsStrictlySortedBy string_cmp (keys_of es) → left ≡ e ∷ rest → string_bytes name ≡ string_bytes e.0 → key ≡ string_bytes e.0
      → view value ≡ f key (view e.1) → after ≡ insert_entry string_cmp before name value → Mapped f es rest (members_view after)
  mapped_next rest before after e key name value m ordered step named same_key filled entered =
      let all : es ≡ m.done ++ e ∷ rest = m.all ∙ ap (λ es. m.done ++ es) step in
      let last = put_mapped f m.done e rest (subst (λ es. IsStrictlySortedBy string_cmp (keys_of es)) all ordered) in record {
        done = m.done ++ e ∷ [];
        all = all ∙ sym (append_assoc m.done (e ∷ []) rest);
        same = ap members_view entered ∙ members_view-insert_entry before name value ∙ rw (named, filled, same_key, m.same) last;
      }

  pub mapped_all : (out : Members) → Mapped f es left out → left ≡ [] → out ≡ map_members f (members_view es)
  mapped_all out m none = m.same ∙ sym (ap (λ es. map_members f (members_view es)) (m.all ∙ ap (λ es. m.done ++ es) none ∙ append-nil m.done))

pub object_filled : {S : Type 0} (accessors : DefaultsAccessors S) (f : S → Data → Data) (s : S) (es left : List Entry) (mapped out : Members) → Mapped (member_by accessors f s) es left mapped → left ≡ []
    → out ≡ with_defaults (default_by accessors f s) (accessors.keys s) mapped → out ≡ object_by accessors f s (members_view es)
unfolding object_by
object_filled accessors f s es left mapped out m none e = e ∙ ap (with_defaults (default_by accessors f s) (accessors.keys s)) (mapped_all (member_by accessors f s) es left mapped m none)

-- ---- a default at a key that is there, or isn't

pub default_there : (k : List ℕ) (o : Option Data) (es : List Entry) → true ≡ is_some (lookup (is_at (λ l. slice_cmp nat_cmp k (string_bytes l))) es) → members_view es ≡ put_new k o (members_view es)
default_there k o es there = put_there k o (members_view es) (found_there k es true there)

pub default_put : (k : List ℕ) (g : Data → Data) (o : Option Data) (d : Data) (es after : List Entry) (name : String Global) (value : Value) → Some d ≡ o → false ≡ is_some (lookup (is_at (λ l. slice_cmp nat_cmp k (string_bytes l))) es)
    → string_bytes name ≡ k → view value ≡ g d → after ≡ insert_entry string_cmp es name value → members_view after ≡ put_new k (option_map g o) (members_view es)
default_put k g o d es after name value default new named filled entered =
    ap members_view entered ∙ members_view-insert_entry es name value
    ∙ ap (λ k. put k (view value) (members_view es)) named ∙ ap (λ v. put k v (members_view es)) filled
    ∙ put_here k g o d (members_view es) default (found_there k es false new)

pub ruleset defaults = (put_none, default_there, default_put)
