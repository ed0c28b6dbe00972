-- Trusted by the headline.
-- What defaults read of a schema in either form, and the accessors of a schema
-- as JSON: Kubernetes documentation, "Extend the Kubernetes API with
-- CustomResourceDefinitions", "Defaulting" and "Specifying a structural schema".
use Rattle.std.specs.Prelude.{ℕ, List, [], ◌∷◌, Bool, false, if◌then◌else◌, Option, Some, None, is_some, option_and_then, unwrap_or, codes}
use Rattle.serde_json.specs.Data.{Data, Members, no_members, member}
use Rattle.serde_json.specs.Find.{get, as_object, as_bool}

pub record DefaultsAccessors (S : Type 0) : Type 0 where
  -- the declared keys
  pub keys : S → List (List ℕ)
  -- the schema that `properties` declares for a key
  pub property : List ℕ → S → Option S
  -- the schema of list items
  pub items : S → Option S
  -- the schema of undeclared keys, unless unknown fields are preserved
  pub additional : S → Option S
  -- the default of the schema itself
  pub default : S → Option Data

-- ---- a schema as JSON

-- the declared members
unfoldable pub declared_properties : Data → Option Members
declared_properties schema = option_and_then as_object (get (codes "properties") schema)

abbrev pub members_or_none : Option Members → Members
members_or_none None = no_members
members_or_none (Some ms) = ms

abbrev pub keys_in : Members → List (List ℕ)
keys_in no_members = []
keys_in (member k d ms) = k ∷ keys_in ms

unfoldable pub property : List ℕ → Data → Option Data
property k schema = option_and_then (get k) (get (codes "properties") schema)

-- the schema of undeclared keys: `additionalProperties`, if it is an object
unfoldable pub additional : Data → Option Data
additional schema =
    option_and_then (λ d. if is_some (as_object d) then Some d else None)
    (get (codes "additionalProperties") schema)

unfoldable pub preserves : Data → Bool
preserves schema =
    unwrap_or (option_and_then as_bool (get (codes "x-kubernetes-preserve-unknown-fields") schema)) false

unfoldable pub default_in : Data → Option Data
default_in schema = get (codes "default") schema

unfoldable pub raw : DefaultsAccessors Data
raw = record {
  keys = λ s. keys_in (members_or_none (declared_properties s));
  property = property;
  items = get (codes "items");
  additional = λ s. if preserves s then None else additional s;
  default = default_in;
}
