-- Trusted by the headline.
-- How a JSON value is converted to CEL by a schema of either form: Kubernetes documentation,
-- "Use CEL validation rules", the CEL types of schema types and the escaping of property names.
use Rattle.std.specs.Prelude.{ℕ, zero, suc, ◌-◌, List, [], Bool, Option, Some, None, is_some, if◌then◌else◌, codes}
use Rattle.std.specs.Option.{option_map_or}
use Rattle.serde_json.specs.Data as json
use Rattle.serde_json.specs.Find.{get_member}
use Rattle.cel_value.specs.Data.{Data, null, bool, text, list, map_of, text_key, Items, no_items, item, Entries, no_entries}
use Rattle.cel_value.specs.Keys.{put}
use Rattle.kube_schema_values.specs.Escape.{escape}
use Rattle.kube_schema_values.specs.Plain.{plain, plain_number}
use Rattle.kube_schema_values.specs.Formats.{value_by_format}
use Rattle.kube_schema_values.specs.Node.{format_of, is_map, is_embedded, items_of, property_of, additional_of}
use Rattle.kube_schema_values.specs.declared.format.SchemaFormat.{SchemaFormat}

-- what binding reads of a node
pub record ConversionAccessors (S : Type 0) : Type 0 where
  -- the node that is declared for a member
  pub property : List ℕ → S → Option S
  -- the node of members that aren't declared
  pub additional : S → Option S
  -- the node of list items
  pub items : S → Option S
  -- the node is a map node: its objects keep their keys unescaped
  pub is_map : S → Bool
  -- its objects are embedded resources
  pub is_embedded : S → Bool
  -- the format by which its strings are converted
  pub format : S → SchemaFormat

abbrev pub or_else : {S : Type 0} → Option S → Option S → Option S
or_else None o = o
or_else (Some x) o = Some x

abbrev pub items_by : (json.Data → Data) → json.Items → Items
items_by f json.no_items = no_items
items_by f (json.item d ds) = item (f d) (items_by f ds)

abbrev pub entries_by : (List ℕ → List ℕ) → (List ℕ → json.Data → Data) → json.Members → Entries
entries_by key f json.no_members = no_entries
entries_by key f (json.member k d ms) = put (text_key (key k)) (f k d) (entries_by key f ms)

-- the entries with a value put at a key, unless the object has that member
abbrev pub put_absent : json.Members → List ℕ → Data → Entries → Entries
put_absent ms k d es = if is_some (get_member k ms) then es else put (text_key k) d es

-- the entries with the fields that an embedded resource always has
unfoldable pub with_resource_fields : json.Members → Entries → Entries
with_resource_fields ms es =
    put_absent ms (codes "metadata") (map_of no_entries)
    (put_absent ms (codes "kind") (text [])
    (put_absent ms (codes "apiVersion") (text []) es))

-- the key of a member: unescaped in a map node
abbrev pub key_in : Bool → List ℕ → List ℕ
key_in keeps_keys k = if keeps_keys then k else escape k

module _ {S : Type 0} (accessors : ConversionAccessors S) where
  -- the node of a member
  abbrev pub member_node : S → List ℕ → Option S
  member_node s k = or_else (accessors.property k s) (accessors.additional s)

  abbrev pub member_key : S → List ℕ → List ℕ
  member_key s k = key_in (accessors.is_map s) k

  -- one level, with values at the nodes below converted by f
  module _ (f : S → json.Data → Data) (s : S) where
    unfoldable pub member_by : List ℕ → json.Data → Data
    member_by k d = option_map_or (λ p. f p d) (member_node s k) (plain d)

    abbrev pub members_by : json.Members → Entries
    members_by ms = entries_by (member_key s) member_by ms

    unfoldable pub object_by : json.Members → Entries
    object_by ms = if accessors.is_embedded s then with_resource_fields ms (members_by ms) else members_by ms

    unfoldable pub to_cel_by : json.Data → Data
    to_cel_by json.null = null
    to_cel_by (json.boolean b) = bool b
    to_cel_by (json.number n) = plain_number n
    to_cel_by (json.string t) = value_by_format (accessors.format s) t
    to_cel_by (json.array ds) =
        option_map_or (λ p. list (items_by (f p) ds)) (accessors.items s) (plain (json.array ds))
    to_cel_by (json.object ms) = map_of (object_by ms)

-- the value converted by this number of levels of nodes, and plainly below them
unfoldable pub to_cel : {S : Type 0} → ConversionAccessors S → ℕ → S → json.Data → Data
to_cel accessors zero s d = plain d
to_cel accessors (suc n) s d = to_cel_by accessors (to_cel accessors n) s d

-- the number of levels of nodes that apply from a depth on: those of depth at most 64
abbrev pub levels : ℕ → ℕ
levels depth = 65 - depth

-- a schema as JSON
unfoldable pub raw : ConversionAccessors json.Data
raw = record {
  property = property_of;
  additional = additional_of;
  items = items_of;
  is_map = is_map;
  is_embedded = is_embedded;
  format = format_of;
}
