-- Trusted by the clauses of other library calls.
-- The steps of the walk through the tree of a schema: the same as through the schema itself.
use Rattle.std.specs.Prelude.{if◌then◌else◌, None}
use Rattle.serde_json.specs.Find.{at, get}
use Rattle.kube_schema.specs.StepAccessors.{StepAccessors}
use Rattle.kube_schema.specs.Tree.{Node, own, items_of, additional_of, property_of, branches_of, nth_node, nodes_length}

unfoldable pub compiled_steps : StepAccessors Node
compiled_steps = record {
  property = property_of;
  items = items_of;
  additional_property = λ n. if (own n).preserves then None else additional_of n;
  branch_count = λ kind n. nodes_length (branches_of kind n);
  branch = λ kind i n. nth_node i (branches_of kind n);
  old_member = λ key n old. get key old;
  old_item = λ index n value old. at index old;
}
