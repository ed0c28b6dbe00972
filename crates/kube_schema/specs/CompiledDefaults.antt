-- Trusted by the clauses of other library calls.
-- The accessors by which defaults read the tree of a
-- schema. They answer as those of the schema itself.
use Rattle.std.specs.Prelude.{if◌then◌else◌, None}
use Rattle.kube_schema_values.specs.DefaultsAccessors.{DefaultsAccessors}
use Rattle.kube_schema.specs.Tree.{Node, own, named_of, names, items_of, additional_of, property_of, default_of}

unfoldable pub tree_accessors : DefaultsAccessors Node
tree_accessors = record {
  keys = λ n. names (named_of n);
  property = property_of;
  items = items_of;
  additional = λ n. if (own n).preserves then None else additional_of n;
  default = default_of;
}
