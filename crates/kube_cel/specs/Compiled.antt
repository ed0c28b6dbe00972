-- Trusted by the clauses of other library calls.
-- A compiled schema, as its tree of nodes.
use Rattle.kube_cel.specs.CompiledSteps.{compiled_steps}
use Rattle.kube_cel.specs.Reading.{null_if_none}
use Rattle.kube_cel_walk.specs.WalkAccessors.{WalkAccessors}
use Rattle.kube_functions.specs.Kube.{all_library}
use Rattle.kube_schema.specs.Tree.{Node, own}
use Rattle.kube_schema.specs.CompiledConversion.{tree_accessors}
use Rattle.kube_schema.specs.Conversion.{levels, to_cel}
use Rattle.std.specs.Prelude.{true}

-- the rules were read when the schema was compiled
unfoldable pub compiled_accessors : WalkAccessors Node
compiled_accessors = record {
  steps = compiled_steps;
  bound = λ depth node value. to_cel tree_accessors (levels depth) node value;
  rules = λ node. (own node).validations;
  runs_at = λ node value. true;
  optional_old = λ depth node old. null_if_none old;
  library = all_library;
}
