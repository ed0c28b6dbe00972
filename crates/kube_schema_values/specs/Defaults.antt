-- Trusted by the headline.
-- How a value is filled with the defaults of a schema: Kubernetes
-- documentation, "Extend the Kubernetes API with CustomResourceDefinitions",
-- "Defaulting". A default that is added is itself filled.
use Rattle.std.specs.Prelude.{◌≡◌, ℕ, zero, suc, List, [], ◌∷◌, Option, Some, None, option_map, option_and_then, unwrap_or}
use Rattle.std.specs.Option.{option_or}
use Rattle.serde_json.specs.Data.{Data, null, boolean, number, string, array, object, Items, no_items, item, Members, no_members, member, put}
use Rattle.serde_json.specs.Find.{get, get_member, as_object}
use Rattle.kube_schema_values.specs.DefaultsAccessors.{DefaultsAccessors}

-- the members, with d added at k unless k is present
abbrev pub put_new : List ℕ → Option Data → Members → Members
put_new k None ms = ms
put_new k (Some d) ms = unwrap_or (option_map (λ _. ms) (get_member k ms)) (put k d ms)

-- the members, with the default of each missing key
unfoldable pub with_defaults : (List ℕ → Option Data) → List (List ℕ) → Members → Members
with_defaults default [] ms = ms
with_defaults default (k ∷ ks) ms = with_defaults default ks (put_new k (default k) ms)

abbrev pub map_items : (Data → Data) → Items → Items
map_items f no_items = no_items
map_items f (item d ds) = item (f d) (map_items f ds)

abbrev pub map_members : (List ℕ → Data → Data) → Members → Members
map_members f no_members = no_members
map_members f (member k d ms) = member k (f k d) (map_members f ms)

-- the schema of a member
unfoldable pub member_schema : {S : Type 0} → DefaultsAccessors S → S → List ℕ → Option S
member_schema accessors s k = option_or (accessors.property k s) (accessors.additional s)

-- one level of a value by a schema, with values within it filled by f
module _ {S : Type 0} (accessors : DefaultsAccessors S) (f : S → Data → Data) (s : S) where
  -- a member, filled by its schema; as it is if it has none
  unfoldable pub member_by : List ℕ → Data → Data
  member_by k d = unwrap_or (option_map (λ p. f p d) (member_schema accessors s k)) d

  -- the value of a missing key: its default, filled by the schema that declares it
  unfoldable pub default_by : List ℕ → Option Data
  default_by k = option_and_then (λ p. option_map (f p) (accessors.default p)) (accessors.property k s)

  unfoldable pub object_by : Members → Members
  object_by ms = with_defaults default_by (accessors.keys s) (map_members member_by ms)

  unfoldable pub defaulted_by : Data → Data
  defaulted_by null = null
  defaulted_by (boolean b) = boolean b
  defaulted_by (number n) = number n
  defaulted_by (string t) = string t
  defaulted_by (array ds) =
      unwrap_or (option_map (λ p. array (map_items (f p) ds)) (accessors.items s)) (array ds)
  defaulted_by (object ms) = object (object_by ms)

-- the value filled with the defaults of this number of levels of the schema
unfoldable pub defaulted_value : {S : Type 0} → DefaultsAccessors S → ℕ → S → Data → Data
defaulted_value accessors zero s d = d
defaulted_value accessors (suc n) s d = defaulted_by accessors (defaulted_value accessors n) s d

-- ---- the law of an object's members

-- The members of a filled object whose schema has n levels below it: a key
-- that the object had holds its member, filled by the member's schema; another
-- key holds its default, filled likewise, or is absent if there is no default.
pub record FillsMembers {S : Type 0} (accessors : DefaultsAccessors S)
    (n : ℕ) (s : S) (value out : Data) : Type 0 where
  pub members : (ms : Members) (k : List ℕ) → Some ms ≡ as_object value
      → get k out ≡ option_or (option_map (member_by accessors (defaulted_value accessors n) s k)
      (get_member k ms)) (default_by accessors (defaulted_value accessors n) s k)
