-- Trusted by the clauses of manifests.
-- The schemas within a schema, each with its JSON Pointer: a schema precedes those within it. First
-- come those that are read, in the order of the walk over an object (Kubernetes documentation,
-- "Extend the Kubernetes API with CustomResourceDefinitions", "Specifying a structural schema"),
-- then those of the other fields that hold schemas (Kubernetes API reference, `JSONSchemaProps`): no
-- object is judged by these. `Visited.antt` says which places the walk reaches, and a law that these
-- are the ones that are read.
use Rattle.std.specs.Prelude.{◌≡◌, ℕ, zero, suc, List, [], ◌∷◌, ◌++◌, map, Bool, false, if◌then◌else◌, Option, Some, None, codes, string_bytes}
use Rattle.std.specs.Option.{option_and_then}
use Rattle.serde_json.specs.Data.{Data, Items, no_items, item, Members, no_members, member}
use Rattle.serde_json.specs.Find.{get, as_object}
use Rattle.serde_json.specs.View.{view}
use Rattle.kube_schema.specs.RulesRaw.{undeclared_property}
use Rattle.kube_schema.specs.DefaultsAccessors.{members_or_none, additional, preserves}
use Rattle.kube_schema.specs.View.{branches, items_or_none}
use Rattle.kube_manifests_documents.specs.Pointers.{keyword_pointer, key_pointer, index_pointer}
use Rattle.kube_manifests_review.specs.declared.locations.SchemaLocation as code

pub record SchemaLocation : Type 0 where
  pub pointer : List ℕ
  pub schema : Data
  -- whether objects are judged by it
  pub is_read : Bool

abbrev pub location_view : code.SchemaLocation → SchemaLocation
location_view p = record {
  pointer = string_bytes p.pointer;
  schema = view p.schema.now;
  is_read = p.is_read;
}

-- the locations afterwards are those before, followed by these
abbrev pub AddsLocations : List code.SchemaLocation → List code.SchemaLocation → List SchemaLocation → Type 0
AddsLocations before after ps = map location_view after ≡ map location_view before ++ ps

-- ---- the locations within a schema, given the function f from a schema and its pointer to its
-- locations

abbrev pub named_locations : (List ℕ → Data → List SchemaLocation) → List ℕ → Members → List SchemaLocation
named_locations f p no_members = []
named_locations f p (member k d ms) = f (key_pointer p k) d ++ named_locations f p ms

-- the locations of items, from the i-th on
abbrev pub item_locations : (List ℕ → Data → List SchemaLocation) → List ℕ → ℕ → Items → List SchemaLocation
item_locations f p i no_items = []
item_locations f p i (item d ds) = f (index_pointer p i) d ++ item_locations f p (suc i) ds

abbrev pub maybe_locations : (List ℕ → Data → List SchemaLocation)
    → List ℕ → Option Data → List SchemaLocation
maybe_locations f p None = []
maybe_locations f p (Some d) = f p d

abbrev pub branch_locations : (List ℕ → Data → List SchemaLocation)
    → List ℕ → List ℕ → Data → List SchemaLocation
branch_locations f p keyword s =
    item_locations f (keyword_pointer p keyword) 0 (items_or_none (branches keyword s))

-- the members of a field, if it is an object
unfoldable pub named_schemas : List ℕ → Data → Option Members
named_schemas field s = option_and_then as_object (get field s)

abbrev pub names_locations : (List ℕ → Data → List SchemaLocation)
    → List ℕ → List ℕ → Data → List SchemaLocation
names_locations f p field s =
    named_locations f (keyword_pointer p field) (members_or_none (named_schemas field s))

-- the locations of the fields that a walk over an object goes through
unfoldable pub locations_within : (List ℕ → Data → List SchemaLocation) → List ℕ → Data → List SchemaLocation
locations_within f p s =
    names_locations f p (codes "properties") s
    ++ (maybe_locations f (keyword_pointer p (codes "items")) (get (codes "items") s)
    ++ (maybe_locations f (keyword_pointer p (codes "additionalProperties")) (undeclared_property s)
    ++ (branch_locations f p (codes "allOf") s
    ++ (branch_locations f p (codes "oneOf") s
    ++ branch_locations f p (codes "anyOf") s))))

-- the schema of `additionalProperties` where unknown fields are preserved: the walk doesn't go
-- there
unfoldable pub passed_over : Data → Option Data
passed_over s = if preserves s then additional s else None

-- the locations of the fields that hold schemas and that no walk goes through; `items` may be a list
-- of schemas
unfoldable pub unread_within : (List ℕ → Data → List SchemaLocation) → List ℕ → Data → List SchemaLocation
unread_within f p s =
    maybe_locations f (keyword_pointer p (codes "additionalProperties")) (passed_over s)
    ++ (maybe_locations f (keyword_pointer p (codes "not")) (get (codes "not") s)
    ++ (maybe_locations f (keyword_pointer p (codes "additionalItems")) (get (codes "additionalItems") s)
    ++ (branch_locations f p (codes "items") s
    ++ (names_locations f p (codes "patternProperties") s
    ++ (names_locations f p (codes "definitions") s
    ++ names_locations f p (codes "dependencies") s)))))

-- the locations of a schema at this pointer, which is read or isn't, down to this depth
unfoldable pub locations_of : ℕ → Bool → List ℕ → Data → List SchemaLocation
locations_of zero read p s = []
locations_of (suc n) read p s =
    record { pointer = p; schema = s; is_read = read }
    ∷ (locations_within (locations_of n read) p s ++ unread_within (locations_of n false) p s)
