-- Defaults read only what the tree keeps of a schema.
use Rattle.std.proofs.Common.{◌≡◌, ℕ, zero, suc, List, [], ◌∷◌, Bool, true, false, if◌then◌else◌, Option, Some, None, option_map, option_and_then, unwrap_or, refl, ap, ◌∙◌, codes, nat_cmp, Ordering, Less, Equal, Greater}
use Rattle.std.specs.Option.{option_or}
use Rattle.std.specs.Cmp.Lexicographic.{slice_cmp}
use Rattle.std.specs.Ordering.{match_ordering}
use Rattle.serde_json.specs.Data.{Data, null, boolean, number, string, array, object, Items, no_items, item, Members, no_members, member}
use Rattle.serde_json.specs.Find.{get, get_member}
use Rattle.kube_schema.specs.Tree.{Node, names, as_option, default_of, find}
use Rattle.kube_schema_values.specs.DefaultsAccessors.{DefaultsAccessors, raw, declared_properties, members_or_none, keys_in, additional, preserves, default_in}
use Rattle.kube_schema.specs.View.{named_view, maybe_view, own_view, marker_view, children_view, view_of}
use Rattle.kube_schema_values.specs.Defaults.{put_new, map_items, map_members, with_defaults, member_schema, default_by, member_by, object_by, defaulted_by, defaulted_value}
use Rattle.kube_schema_values.proofs.Fills.{property_is}
use Rattle.kube_schema.specs.CompiledDefaults.{tree_accessors}

-- ---- generic: two forms of a schema that answer alike, one level down

map_items_same : (f g : Data → Data) → ((d : Data) → f d ≡ g d) → (ds : Items) → map_items f ds ≡ map_items g ds
map_items_same f g h no_items = refl
map_items_same f g h (item d ds) = ap (λ x. item x (map_items f ds)) (h d) ∙ ap (item (g d)) (map_items_same f g h ds)

map_members_same : (f g : List ℕ → Data → Data) → ((k : List ℕ) (d : Data) → f k d ≡ g k d) → (ms : Members) → map_members f ms ≡ map_members g ms
map_members_same f g h no_members = refl
map_members_same f g h (member k d ms) = ap (λ x. member k x (map_members f ms)) (h k d) ∙ ap (member k (g k d)) (map_members_same f g h ms)

with_defaults_same : (f g : List ℕ → Option Data) → ((k : List ℕ) → f k ≡ g k) → (ks : List (List ℕ)) (ms : Members) → with_defaults f ks ms ≡ with_defaults g ks ms
unfolding with_defaults
with_defaults_same f g h [] ms = refl
with_defaults_same f g h (k ∷ ks) ms = ap (λ o. with_defaults f ks (put_new k o ms)) (h k) ∙ with_defaults_same f g h ks (put_new k (g k) ms)

module _ {S T : Type 0} (ls : DefaultsAccessors S) (lt : DefaultsAccessors T) (view : S → T) where
  -- t is the view of s
  pub record Alike (s : S) (t : T) : Type 0 where
    pub keys : ls.keys s ≡ lt.keys t
    pub property : (k : List ℕ) → option_map view (ls.property k s) ≡ lt.property k t
    pub items : option_map view (ls.items s) ≡ lt.items t
    pub additional : option_map view (ls.additional s) ≡ lt.additional t
    pub default : (p : S) → ls.default p ≡ lt.default (view p)

  module _ (f : S → Data → Data) (g : T → Data → Data) (same : (p : S) (d : Data) → f p d ≡ g (view p) d) where
    either : (a b : Option S) (d : Data) → unwrap_or (option_map (λ p. f p d) (option_or a b)) d ≡ unwrap_or (option_map (λ p. g p d) (option_or (option_map view a) (option_map view b))) d
    either (Some p) b d = same p d
    either None (Some p) d = same p d
    either None None d = refl

    member_same : (s : S) (t : T) → Alike s t → (k : List ℕ) (d : Data) → member_by ls f s k d ≡ member_by lt g t k d
    unfolding member_by member_schema
    member_same s t h k d = either (ls.property k s) (ls.additional s) d ∙ ap (λ o. unwrap_or (option_map (λ p. g p d) (option_or o (option_map view (ls.additional s)))) d) (h.property k) ∙ ap (λ o. unwrap_or (option_map (λ p. g p d) (option_or (lt.property k t) o)) d) h.additional

    one_default : (p : S) (o : Option Data) → option_map (f p) o ≡ option_map (g (view p)) o
    one_default p None = refl
    one_default p (Some d) = ap Some (same p d)

    each_default : (t : S → Option Data) (u : T → Option Data) → ((p : S) → t p ≡ u (view p)) → (o : Option S) → option_and_then (λ p. option_map (f p) (t p)) o ≡ option_and_then (λ p. option_map (g p) (u p)) (option_map view o)
    each_default t u h None = refl
    each_default t u h (Some p) = one_default p (t p) ∙ ap (option_map (g (view p))) (h p)

    default_same : (s : S) (t : T) → Alike s t → (k : List ℕ) → default_by ls f s k ≡ default_by lt g t k
    unfolding default_by
    default_same s t h k = each_default ls.default lt.default h.default (ls.property k s) ∙ ap (λ o. option_and_then (λ p. option_map (g p) (lt.default p)) o) (h.property k)

    object_same : (s : S) (t : T) → Alike s t → (ms : Members) → object_by ls f s ms ≡ object_by lt g t ms
    unfolding object_by
    object_same s t h ms =
        with_defaults_same (default_by ls f s) (default_by lt g t) (default_same s t h) (ls.keys s) (map_members (member_by ls f s) ms)
        ∙ ap (λ ks. with_defaults (default_by lt g t) ks (map_members (member_by ls f s) ms)) h.keys
        ∙ ap (with_defaults (default_by lt g t) (lt.keys t)) (map_members_same (member_by ls f s) (member_by lt g t) (member_same s t h) ms)

    each_item : (o : Option S) (ds : Items) → unwrap_or (option_map (λ p. array (map_items (f p) ds)) o) (array ds) ≡ unwrap_or (option_map (λ p. array (map_items (g p) ds)) (option_map view o)) (array ds)
    each_item None ds = refl
    each_item (Some p) ds = ap array (map_items_same (f p) (g (view p)) (same p) ds)

    pub filled_by_same : (s : S) (t : T) → Alike s t → (d : Data) → defaulted_by ls f s d ≡ defaulted_by lt g t d
    unfolding defaulted_by
    filled_by_same s t h null = refl
    filled_by_same s t h (boolean b) = refl
    filled_by_same s t h (number n) = refl
    filled_by_same s t h (string x) = refl
    filled_by_same s t h (array ds) = each_item (ls.items s) ds ∙ ap (λ o. unwrap_or (option_map (λ p. array (map_items (g p) ds)) o) (array ds)) h.items
    filled_by_same s t h (object ms) = ap object (object_same s t h ms)

-- ---- a schema and its tree

pub names_same : (f : Data → Node) (ms : Members) → keys_in ms ≡ names (named_view f ms)
names_same f no_members = refl
names_same f (member k d ms) = ap (λ ks. k ∷ ks) (names_same f ms)

pub find_same : (f : Data → Node) (k : List ℕ) (ms : Members) → option_map f (get_member k ms) ≡ find k (named_view f ms)
find_same f k no_members = refl
find_same f k (member l d ms) = by (slice_cmp nat_cmp k l) (find_same f k ms)
  where
    by : (o : Ordering) → option_map f (get_member k ms) ≡ find k (named_view f ms) → option_map f (match_ordering o (get_member k ms) (Some d) (get_member k ms)) ≡ match_ordering o (find k (named_view f ms)) (Some (f d)) (find k (named_view f ms))
    by Less e = e
    by Equal e = refl
    by Greater e = e

pub maybe_same : (f : Data → Node) (o : Option Data) → option_map f o ≡ as_option (maybe_view f o)
maybe_same f None = refl
maybe_same f (Some d) = refl

pub unless : (f : Data → Node) (b : Bool) (o : Option Data) → option_map f (if b then None else o) ≡ (if b then None else as_option (maybe_view f o))
unless f true o = refl
unless f false o = maybe_same f o

default_same_at : (n : ℕ) (s : Data) → default_in s ≡ default_of (view_of n s)
unfolding view_of own_view marker_view children_view
default_same_at zero s = refl
default_same_at (suc n) s = refl

pub alike : (n : ℕ) (s : Data) → Alike raw tree_accessors (view_of n) s (view_of (suc n) s)
unfolding view_of own_view children_view raw tree_accessors
alike n s = record {
  keys = names_same (view_of n) (members_or_none (declared_properties s));
  property = λ k. ap (option_map (view_of n)) (property_is k s) ∙ find_same (view_of n) k (members_or_none (declared_properties s));
  items = maybe_same (view_of n) (get (codes "items") s);
  additional = unless (view_of n) (preserves s) (additional s);
  default = default_same_at n;
}

-- the tree and the schema fill a value alike
pub filled_same : (n : ℕ) (s d : Data) → defaulted_value raw n s d ≡ defaulted_value tree_accessors n (view_of n s) d
unfolding defaulted_value
filled_same zero s d = refl
filled_same (suc n) s d = filled_by_same raw tree_accessors (view_of n) (defaulted_value raw n) (defaulted_value tree_accessors n) (filled_same n) s (view_of (suc n) s) (alike n s) d
