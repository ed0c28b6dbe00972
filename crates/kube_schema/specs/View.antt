-- Trusted by the headline.
-- The tree of a schema, keyword by keyword: Kubernetes documentation, "Extend the
-- Kubernetes API with CustomResourceDefinitions", "Specifying a structural schema".
use Rattle.std.specs.Prelude.{ℕ, zero, suc, false, List, [], ◌∷◌, Option, Some, None, Err, codes, option_and_then}
use Rattle.serde_json.specs.Data.{Data, Items, no_items, item, Members, no_members, member}
use Rattle.serde_json.specs.Find.{get, as_array, as_number, as_u64}
use Rattle.kube_schema_values.specs.declared.format.SchemaFormat.TheVariants as format
use Rattle.kube_schema_values.specs.Node.{format_of, is_map, is_embedded}
use Rattle.kube_schema_values.specs.DefaultsAccessors.{declared_properties, members_or_none, additional, preserves, default_in}
use Rattle.kube_schema_rules.specs.Compilation.{past_depth, compiled_rules}
use Rattle.kube_schema_rules.specs.Rules.{rule_items}
use Rattle.kube_schema.specs.Tree.{Own, Node, node, Maybe, nothing, just, Named, no_named, named, Nodes, no_nodes, more}

-- ---- the keywords of a single schema

-- a whole number that fits `u64`
unfoldable pub limit : List ℕ → Data → Option ℕ
limit k schema = option_and_then (λ d. option_and_then as_u64 (as_number d)) (get k schema)

unfoldable pub branches : List ℕ → Data → Option Items
branches k schema = option_and_then as_array (get k schema)

abbrev pub items_or_none : Option Items → Items
items_or_none None = no_items
items_or_none (Some ds) = ds

unfoldable pub own_view : Data → Own
own_view s = record {
  validations = compiled_rules (rule_items s);
  format = format_of s;
  is_map = is_map s;
  preserves = preserves s;
  embedded = is_embedded s;
  max_length = limit (codes "maxLength") s;
  max_items = limit (codes "maxItems") s;
  max_properties = limit (codes "maxProperties") s;
  default = default_in s;
}

-- the marker of a schema beyond the maximum depth:
-- only its default, and one error instead of its rules
unfoldable pub marker_view : Data → Own
marker_view s = record {
  validations = Err (past_depth 65) ∷ [];
  format = format.None;
  is_map = false;
  preserves = false;
  embedded = false;
  max_length = None;
  max_items = None;
  max_properties = None;
  default = default_in s;
}

-- ---- the schemas within it, with the tree of each given by f

abbrev pub named_view : (Data → Node) → Members → Named
named_view f no_members = no_named
named_view f (member k d ms) = named k (f d) (named_view f ms)

abbrev pub nodes_view : (Data → Node) → Items → Nodes
nodes_view f no_items = no_nodes
nodes_view f (item d ds) = more (f d) (nodes_view f ds)

abbrev pub maybe_view : (Data → Node) → Option Data → Maybe
maybe_view f None = nothing
maybe_view f (Some d) = just (f d)

abbrev pub branch_view : (Data → Node) → List ℕ → Data → Nodes
branch_view f k s = nodes_view f (items_or_none (branches k s))

-- a node with these keywords and the schema's children
unfoldable pub children_view : (Data → Node) → Data → Own → Node
children_view f s o =
    node o (named_view f (members_or_none (declared_properties s)))
    (maybe_view f (get (codes "items") s)) (maybe_view f (additional s))
    (branch_view f (codes "allOf") s) (branch_view f (codes "oneOf") s) (branch_view f (codes "anyOf") s)

-- the tree of a schema, with markers instead of schemas deeper than this number of levels
unfoldable pub view_of : ℕ → Data → Node
view_of zero s = node (marker_view s) no_named nothing nothing no_nodes no_nodes no_nodes
view_of (suc n) s = children_view (view_of n) s (own_view s)
