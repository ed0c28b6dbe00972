-- Defaults keep what is there.
use Rattle.std.proofs.Common.{◌≡◌, ℕ, zero, suc, List, [], ◌∷◌, Option, Some, None, option_map, option_and_then, unwrap_or, refl, ap, ◌∙◌}
use Rattle.std.specs.Option.{option_or}
use Rattle.serde_json.specs.Data.{Data, null, boolean, number, string, array, object, Items, no_items, item}
use Rattle.serde_json.specs.Find.{get, get_member, get_item, at}
use Rattle.serde_json.specs.Events.{items_len}
use Rattle.kube_schema_values.specs.DefaultsAccessors.{DefaultsAccessors}
use Rattle.kube_schema_values.specs.Defaults.{map_items, map_members, member_schema, default_by, member_by, object_by, defaulted_by, defaulted_value}
use Rattle.kube_schema_values.specs.Preserved.{Step, key, index, follow, Surface, surface, Keeps}
use Rattle.kube_schema_values.proofs.Members.{is_key, if_key, get_member-map_members, get_member-with_defaults}

items_len-map_items : (f : Data → Data) (ds : Items) → items_len (map_items f ds) ≡ items_len ds
items_len-map_items f no_items = refl
items_len-map_items f (item d ds) = ap suc (items_len-map_items f ds)

get_item-map_items : (f : Data → Data) (i : ℕ) (ds : Items) → get_item i (map_items f ds) ≡ option_map f (get_item i ds)
get_item-map_items f i no_items = refl
get_item-map_items f zero (item d ds) = refl
get_item-map_items f (suc i) (item d ds) = get_item-map_items f i ds

-- a path leads to the same surface
abbrev Leads : List Step → Data → Data → Type 0
Leads path new d = option_map surface (follow path new) ≡ Some (surface d)

module _ {S : Type 0} (accessors : DefaultsAccessors S) (f : S → Data → Data) (s : S) where
  surface_same : (d : Data) → surface (defaulted_by accessors f s d) ≡ surface d
  unfolding defaulted_by surface object_by
  surface_same null = refl
  surface_same (boolean b) = refl
  surface_same (number n) = refl
  surface_same (string t) = refl
  surface_same (object ms) = refl
  surface_same (array ds) = by (accessors.items s)
    where
      by : (o : Option S) → surface (unwrap_or (option_map (λ p. array (map_items (f p) ds)) o) (array ds)) ≡ surface (array ds)
      by None = refl
      by (Some p) = ap Surface.list_of (items_len-map_items (f p) ds)

  -- if a path leads to the same surface in what f fills, it does so in a member and in an item
  module _ (path : List Step) (d : Data) (inner : (p : S) (old : Data) → follow path old ≡ Some d → Leads path (f p old) d) where
    in_member : (k : List ℕ) (x : Data) → follow path x ≡ Some d → Leads path (member_by accessors f s k x) d
    unfolding member_by
    in_member k x e = by (member_schema accessors s k)
      where
        by : (o : Option S) → Leads path (unwrap_or (option_map (λ p. f p x) o) x) d
        by None = ap (option_map surface) e
        by (Some p) = inner p x e

    at_key : (k : List ℕ) (old : Data) → option_and_then (follow path) (get k old) ≡ Some d → option_map surface (option_and_then (follow path) (get k (defaulted_by accessors f s old))) ≡ Some (surface d)
    unfolding defaulted_by object_by
    at_key k null e = cc
    at_key k (boolean b) e = cc
    at_key k (number n) e = cc
    at_key k (string t) e = cc
    at_key k (array ds) e = cc
    at_key k (object ms) e =
        let found = get_member-with_defaults (default_by accessors f s) k (accessors.keys s) (map_members (member_by accessors f s) ms) ∙ ap (λ g. option_or g (if_key (is_key k (accessors.keys s)) (default_by accessors f s k))) (get_member-map_members (member_by accessors f s) k ms) in
        ap (λ o. option_map surface (option_and_then (follow path) o)) found ∙ by (get_member k ms) e
      where
        by : (o : Option Data) → option_and_then (follow path) o ≡ Some d → option_map surface (option_and_then (follow path) (option_or (option_map (member_by accessors f s k) o) (if_key (is_key k (accessors.keys s)) (default_by accessors f s k)))) ≡ Some (surface d)
        by None e = cc
        by (Some x) e = in_member k x e

    at_index : (i : ℕ) (old : Data) → option_and_then (follow path) (at i old) ≡ Some d → option_map surface (option_and_then (follow path) (at i (defaulted_by accessors f s old))) ≡ Some (surface d)
    unfolding defaulted_by object_by
    at_index i null e = cc
    at_index i (boolean b) e = cc
    at_index i (number n) e = cc
    at_index i (string t) e = cc
    at_index i (object ms) e = cc
    at_index i (array ds) e = by (accessors.items s)
      where
        in_item : (p : S) (o : Option Data) → option_and_then (follow path) o ≡ Some d → option_map surface (option_and_then (follow path) (option_map (f p) o)) ≡ Some (surface d)
        in_item p None e = cc
        in_item p (Some x) e = inner p x e

        by : (o : Option S) → option_map surface (option_and_then (follow path) (at i (unwrap_or (option_map (λ p. array (map_items (f p) ds)) o) (array ds)))) ≡ Some (surface d)
        by None = ap (option_map surface) e
        by (Some p) = ap (λ o. option_map surface (option_and_then (follow path) o)) (get_item-map_items (f p) i ds) ∙ in_item p (get_item i ds) e

leads : {S : Type 0} (accessors : DefaultsAccessors S) (path : List Step) (n : ℕ) (s : S) (old d : Data) → follow path old ≡ Some d → Leads path (defaulted_value accessors n s old) d
unfolding defaulted_value follow
leads accessors path zero s old d e = ap (option_map surface) e
leads accessors [] (suc n) s old d e = let same : old ≡ d = cc in ap Some (surface_same accessors (defaulted_value accessors n) s old ∙ ap surface same)
leads accessors (key k ∷ path) (suc n) s old d e = at_key accessors (defaulted_value accessors n) s path d (λ p old e. leads accessors path n p old d e) k old e
leads accessors (index i ∷ path) (suc n) s old d e = at_index accessors (defaulted_value accessors n) s path d (λ p old e. leads accessors path n p old d e) i old e

pub filled_keeps : {S : Type 0} (accessors : DefaultsAccessors S) (n : ℕ) (s : S) (d : Data) → Keeps d (defaulted_value accessors n s d)
filled_keeps accessors n s d = record { kept = λ path x e. leads accessors path n s d x e }
