-- Trusted by the clauses of other library calls.
-- The accessors by which binding reads the tree of a
-- schema. They answer as those of the schema itself.
use Rattle.kube_schema_values.specs.Conversion.{ConversionAccessors}
use Rattle.kube_schema.specs.Tree.{Node, own, items_of, additional_of, property_of}

unfoldable pub tree_accessors : ConversionAccessors Node
tree_accessors = record {
  property = property_of;
  additional = additional_of;
  items = items_of;
  is_map = λ n. (own n).is_map;
  is_embedded = λ n. (own n).embedded;
  format = λ n. (own n).format;
}
