-- Binding reads only what the tree keeps of a schema.
use Rattle.std.proofs.Common.{◌≡◌, ◌≤◌, ℕ, zero, suc, List, if◌then◌else◌, Option, Some, None, option_map, refl, ap, ◌∙◌, codes, arith}
use Rattle.std.specs.Option.{option_map_or}
use Rattle.serde_json.specs.Data as json
use Rattle.serde_json.specs.Find.{get}
use Rattle.cel_value.specs.Data.{Data, item, list, map_of, text_key}
use Rattle.cel_value.specs.Keys.{put}
use Rattle.kube_schema_values.specs.Conversion.{ConversionAccessors, to_cel, to_cel_by, entries_by, items_by, key_in, member_by, member_key, object_by, or_else, raw, with_resource_fields}
use Rattle.kube_schema_values.specs.Formats.{value_by_format}
use Rattle.kube_schema_values.specs.Node as asked
use Rattle.kube_schema_values.specs.DefaultsAccessors.{additional, declared_properties, members_or_none, property}
use Rattle.kube_schema_values.proofs.Fills.{property_is}
use Rattle.kube_schema_values.specs.Plain.{plain}
use Rattle.kube_schema.specs.View.{children_view, own_view, view_of}
use Rattle.kube_schema.proofs.SameDefaults.{find_same, maybe_same}
use Rattle.kube_schema.specs.CompiledConversion.{tree_accessors}

-- ---- generic: two forms of a schema that answer alike, one level down

items_by_same : (f g : json.Data → Data) → ((d : json.Data) → f d ≡ g d) → (ds : json.Items) → items_by f ds ≡ items_by g ds
items_by_same f g h json.no_items = refl
items_by_same f g h (json.item d ds) = λ i. item (h d i) (items_by_same f g h ds i)

entries_by_same : (key other : List ℕ → List ℕ) (f g : List ℕ → json.Data → Data) → ((k : List ℕ) → key k ≡ other k) → ((k : List ℕ) (d : json.Data) → f k d ≡ g k d) → (ms : json.Members) → entries_by key f ms ≡ entries_by other g ms
entries_by_same key other f g named same json.no_members = refl
entries_by_same key other f g named same (json.member k d ms) = λ i. put (text_key (named k i)) (same k d i) (entries_by_same key other f g named same ms i)

module _ {S T : Type 0} (ls : ConversionAccessors S) (lt : ConversionAccessors T) (view : S → T) where
  -- t is the view of s
  pub record Alike (s : S) (t : T) : Type 0 where
    pub property : (k : List ℕ) → option_map view (ls.property k s) ≡ lt.property k t
    pub additional : option_map view (ls.additional s) ≡ lt.additional t
    pub items : option_map view (ls.items s) ≡ lt.items t
    pub is_map : ls.is_map s ≡ lt.is_map t
    pub is_embedded : ls.is_embedded s ≡ lt.is_embedded t
    pub format : ls.format s ≡ lt.format t

  module _ (f : S → json.Data → Data) (g : T → json.Data → Data) (same : (p : S) (d : json.Data) → f p d ≡ g (view p) d) where
    either : (a b : Option S) (d : json.Data) (x : Data) → option_map_or (λ p. f p d) (or_else a b) x ≡ option_map_or (λ p. g p d) (or_else (option_map view a) (option_map view b)) x
    either (Some p) b d x = same p d
    either None (Some p) d x = same p d
    either None None d x = refl

    member_same : (s : S) (t : T) → Alike s t → (k : List ℕ) (d : json.Data) → member_by ls f s k d ≡ member_by lt g t k d
    unfolding member_by
    member_same s t h k d = either (ls.property k s) (ls.additional s) d (plain d) ∙ (λ i. option_map_or (λ p. g p d) (or_else (h.property k i) (h.additional i)) (plain d))

    object_same : (s : S) (t : T) → Alike s t → (ms : json.Members) → object_by ls f s ms ≡ object_by lt g t ms
    unfolding object_by
    object_same s t h ms =
        let members = entries_by_same (member_key ls s) (member_key lt t) (member_by ls f s) (member_by lt g t) (λ k. ap (λ b. key_in b k) h.is_map) (member_same s t h) ms in
        λ i. if h.is_embedded i then with_resource_fields ms (members i) else members i

    each_item : (o : Option S) (ds : json.Items) (x : Data) → option_map_or (λ p. list (items_by (f p) ds)) o x ≡ option_map_or (λ p. list (items_by (g p) ds)) (option_map view o) x
    each_item None ds x = refl
    each_item (Some p) ds x = ap list (items_by_same (f p) (g (view p)) (same p) ds)

    pub bound_by_same : (s : S) (t : T) → Alike s t → (d : json.Data) → to_cel_by ls f s d ≡ to_cel_by lt g t d
    unfolding to_cel_by
    bound_by_same s t h json.null = refl
    bound_by_same s t h (json.boolean b) = refl
    bound_by_same s t h (json.number n) = refl
    bound_by_same s t h (json.string x) = ap (λ y. value_by_format y x) h.format
    bound_by_same s t h (json.array ds) = each_item (ls.items s) ds (plain (json.array ds)) ∙ ap (λ o. option_map_or (λ p. list (items_by (g p) ds)) o (plain (json.array ds))) h.items
    bound_by_same s t h (json.object ms) = ap map_of (object_same s t h ms)

-- ---- a schema and its tree

pub alike : (n : ℕ) (s : json.Data) → Alike raw tree_accessors (view_of n) s (view_of (suc n) s)
unfolding view_of own_view children_view raw tree_accessors asked.property_of asked.items_of asked.additional_of property additional
alike n s = record {
  property = λ k. ap (option_map (view_of n)) (property_is k s) ∙ find_same (view_of n) k (members_or_none (declared_properties s));
  additional = maybe_same (view_of n) (additional s);
  items = maybe_same (view_of n) (get (codes "items") s);
  is_map = refl;
  is_embedded = refl;
  format = refl;
}

-- the tree and the schema convert a value alike, by as many levels as the tree has, or fewer
pub bound_within : (n m : ℕ) (s d : json.Data) → n ≤ m → to_cel raw n s d ≡ to_cel tree_accessors n (view_of m s) d
unfolding to_cel
bound_within zero m s d h = refl
bound_within (suc n) zero s d h = absurd (omega arith)
bound_within (suc n) (suc m) s d h = bound_by_same raw tree_accessors (view_of m) (to_cel raw n) (to_cel tree_accessors n) (λ p e. bound_within n m p e (omega arith)) s (view_of (suc m) s) (alike m s) d

pub bound_same : (n : ℕ) (s d : json.Data) → to_cel raw n s d ≡ to_cel tree_accessors n (view_of n s) d
bound_same n s d = bound_within n n s d (omega arith)
