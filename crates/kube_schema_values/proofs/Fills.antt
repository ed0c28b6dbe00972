-- `filled`, part by part.
use Rattle.std.proofs.Common.{◌≡◌, ℕ, zero, suc, List, [], ◌∷◌, map, is_some, string_bytes, nat_cmp, Bool, true, false, Option, Some, None, option_map, option_and_then, unwrap_or, refl, sym, ap, ◌∙◌, codes}
use Rattle.std.specs.Option.{option_or}
use Rattle.std.specs.BTreeMap.{is_at}
use Rattle.std.specs.Cmp.Lexicographic.{slice_cmp}
use Rattle.std.specs.Map.{lookup}
use Rattle.serde_json.proofs.Views.{Entry, view-lookup}
use Rattle.serde_json.specs.Data.{Data, null, boolean, number, string, array, object, Items, item, Members, put}
use Rattle.serde_json.specs.Find.{get, get_member, as_object, as_array}
use Rattle.serde_json.specs.View.{view, items_view, items_of, members_view}
use Rattle.serde_json.specs.declared.value.Value.{Value}
use Rattle.kube_schema_values.specs.DefaultsAccessors.{DefaultsAccessors, property, declared_properties, members_or_none}
use Rattle.kube_schema_values.specs.Defaults.{put_new, map_items, with_defaults, member_schema, default_by, member_by, object_by, defaulted_by, defaulted_value}

module _ {S : Type 0} (accessors : DefaultsAccessors S) where
  pub filled_past : (k : ℕ) (s : S) (d : Data) → k ≡ 0 → defaulted_value accessors k s d ≡ d
  unfolding defaulted_value
  filled_past k s d e = ap (λ k. defaulted_value accessors k s d) e

  pub filled_object : (k n : ℕ) (s : S) (v : Data) (ms : Members) → k ≡ suc n → Some ms ≡ as_object v → defaulted_value accessors k s v ≡ object (object_by accessors (defaulted_value accessors n) s ms)
  unfolding defaulted_value defaulted_by
  filled_object k n s v ms e o = ap (λ k. defaulted_value accessors k s v) e ∙ by v o
    where
      by : (v : Data) → Some ms ≡ as_object v → defaulted_by accessors (defaulted_value accessors n) s v ≡ object (object_by accessors (defaulted_value accessors n) s ms)
      by null o = cc
      by (boolean b) o = cc
      by (number x) o = cc
      by (string t) o = cc
      by (array ds) o = cc
      by (object ns) o = let same : ns ≡ ms = cc in ap (λ ms. object (object_by accessors (defaulted_value accessors n) s ms)) same

  pub filled_array : (k n : ℕ) (s p : S) (v : Data) (ds : Items) → k ≡ suc n → Some ds ≡ as_array v → Some p ≡ accessors.items s → defaulted_value accessors k s v ≡ array (map_items (defaulted_value accessors n p) ds)
  unfolding defaulted_value defaulted_by
  filled_array k n s p v ds e o at = ap (λ k. defaulted_value accessors k s v) e ∙ by v o
    where
      by : (v : Data) → Some ds ≡ as_array v → defaulted_by accessors (defaulted_value accessors n) s v ≡ array (map_items (defaulted_value accessors n p) ds)
      by null o = cc
      by (boolean b) o = cc
      by (number x) o = cc
      by (string t) o = cc
      by (object ms) o = cc
      by (array cs) o = let same : cs ≡ ds = cc in
          ap (λ q. unwrap_or (option_map (λ p. array (map_items (defaulted_value accessors n p) cs)) q) (array cs)) (sym at) ∙ ap (λ ds. array (map_items (defaulted_value accessors n p) ds)) same

  pub filled_plain : (k : ℕ) (s : S) (v : Data) → None ≡ as_object v → None ≡ as_array v → defaulted_value accessors k s v ≡ v
  unfolding defaulted_value defaulted_by
  filled_plain zero s v o a = refl
  filled_plain (suc n) s null o a = refl
  filled_plain (suc n) s (boolean b) o a = refl
  filled_plain (suc n) s (number x) o a = refl
  filled_plain (suc n) s (string t) o a = refl
  filled_plain (suc n) s (array ds) o a = cc
  filled_plain (suc n) s (object ms) o a = cc

  pub filled_alone : (k : ℕ) (s : S) (v : Data) → None ≡ as_object v → None ≡ accessors.items s → defaulted_value accessors k s v ≡ v
  unfolding defaulted_value defaulted_by
  filled_alone zero s v o a = refl
  filled_alone (suc n) s null o a = refl
  filled_alone (suc n) s (boolean b) o a = refl
  filled_alone (suc n) s (number x) o a = refl
  filled_alone (suc n) s (string t) o a = refl
  filled_alone (suc n) s (object ms) o a = cc
  filled_alone (suc n) s (array ds) o a = ap (λ q. unwrap_or (option_map (λ p. array (map_items (defaulted_value accessors n p) ds)) q) (array ds)) (sym a)

  -- ---- the schema of a member

  pub accessors_property : (s : S) (k : List ℕ) (p : S) → Some p ≡ accessors.property k s → Some p ≡ member_schema accessors s k
  unfolding member_schema
  accessors_property s k p e = ap (λ o. option_or o (accessors.additional s)) e

  pub accessors_additional : (s : S) (k : List ℕ) (o : Option S) → None ≡ accessors.property k s → o ≡ accessors.additional s → o ≡ member_schema accessors s k
  unfolding member_schema
  accessors_additional s k o e a = a ∙ ap (λ o. option_or o (accessors.additional s)) e

  pub member_none : (f : S → Data → Data) (s : S) (k : List ℕ) (d : Data) → None ≡ member_schema accessors s k → d ≡ member_by accessors f s k d
  unfolding member_by
  member_none f s k d e = ap (λ o. unwrap_or (option_map (λ p. f p d) o) d) e

  pub member_some : (f : S → Data → Data) (s p : S) (k : List ℕ) (d : Data) → Some p ≡ member_schema accessors s k → f p d ≡ member_by accessors f s k d
  unfolding member_by
  member_some f s p k d e = ap (λ o. unwrap_or (option_map (λ p. f p d) o) d) e

  -- ---- the defaults, key by key

  pub default_step : (f : S → Data → Data) (s p : S) (k : List ℕ) (ks : List (List ℕ)) (ms ms2 : Members) → accessors.property k s ≡ Some p → ms2 ≡ put_new k (option_map (f p) (accessors.default p)) ms
      → with_defaults (default_by accessors f s) ks ms2 ≡ with_defaults (default_by accessors f s) (k ∷ ks) ms
  unfolding with_defaults default_by
  default_step f s p k ks ms ms2 found e =
      ap (with_defaults (default_by accessors f s) ks) (e ∙ sym (ap (λ o. put_new k (option_and_then (λ p. option_map (f p) (accessors.default p)) o) ms) found))

pub map_items_is : (f : Data → Data) (vs : List Value) → map_items f (items_view vs) ≡ items_of (map (λ v. f (view v)) vs)
map_items_is f [] = refl
map_items_is f (v ∷ vs) = ap (item (f (view v))) (map_items_is f vs)

kept : (o : Option Data) (a b : Members) → is_some o ≡ true → unwrap_or (option_map (λ _. a) o) b ≡ a
kept None a b h = cc
kept (Some d) a b h = refl

not_kept : (o : Option Data) (a b : Members) → is_some o ≡ false → unwrap_or (option_map (λ _. a) o) b ≡ b
not_kept None a b h = refl
not_kept (Some d) a b h = cc

pub put_none : (k : List ℕ) (g : Data → Data) (o : Option Data) (ms : Members) → None ≡ o → ms ≡ put_new k (option_map g o) ms
put_none k g o ms e = ap (λ o. put_new k (option_map g o) ms) e

pub put_there : (k : List ℕ) (o : Option Data) (ms : Members) → is_some (get_member k ms) ≡ true → ms ≡ put_new k o ms
put_there k None ms there = refl
put_there k (Some d) ms there = sym (kept (get_member k ms) ms (put k d ms) there)

pub put_here : (k : List ℕ) (g : Data → Data) (o : Option Data) (x : Data) (ms : Members) → Some x ≡ o → is_some (get_member k ms) ≡ false → put k (g x) ms ≡ put_new k (option_map g o) ms
put_here k g o x ms e new = sym (not_kept (get_member k ms) ms (put k (g x) ms) new) ∙ ap (λ o. put_new k (option_map g o) ms) e

-- the result of the query is the member's presence
pub found_there : (name : List ℕ) (es : List Entry) (b : Bool) → b ≡ is_some (lookup (is_at (λ k. slice_cmp nat_cmp name (string_bytes k))) es) → is_some (get_member name (members_view es)) ≡ b
found_there name es b e = ap is_some (sym (view-lookup name es)) ∙ same (lookup (is_at (λ k. slice_cmp nat_cmp name (string_bytes k))) es) ∙ sym e
  where
    same : (o : Option Value) → is_some (option_map view o) ≡ is_some o
    same None = refl
    same (Some v) = refl

-- ---- a schema as JSON

pub property_is : (k : List ℕ) (schema : Data) → property k schema ≡ get_member k (members_or_none (declared_properties schema))
unfolding property declared_properties
property_is k schema = by_option (get (codes "properties") schema)
  where
    by_option : (o : Option Data) → option_and_then (get k) o ≡ get_member k (members_or_none (option_and_then as_object o))
    by_option None = refl
    by_option (Some null) = refl
    by_option (Some (boolean b)) = refl
    by_option (Some (number n)) = refl
    by_option (Some (string s)) = refl
    by_option (Some (array ds)) = refl
    by_option (Some (object ms)) = refl
