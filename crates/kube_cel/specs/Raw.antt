-- Trusted by the headline.
-- A schema as JSON, as kube-cel reads it.
use Rattle.kube_cel.specs.Reading.{null_if_none}
use Rattle.kube_functions.specs.Kube.{all_library}
use Rattle.kube_schema.specs.RulesRaw.{raw_steps}
use Rattle.kube_cel_walk.specs.WalkAccessors.{WalkAccessors}
use Rattle.kube_schema.specs.Compilation.{compiled_rules}
use Rattle.kube_schema.specs.Rules.{rule_items}
use Rattle.kube_schema.specs.Conversion.{levels, raw, to_cel}
use Rattle.serde_json.specs.Data.{Data}
use Rattle.std.specs.Prelude.{true}

-- the rules are read where they stand in the schema, and run at all values
unfoldable pub raw_accessors : WalkAccessors Data
raw_accessors = record {
  steps = raw_steps;
  bound = λ depth node value. to_cel raw (levels depth) node value;
  rules = λ node. compiled_rules (rule_items node);
  runs_at = λ node value. true;
  optional_old = λ depth node old. null_if_none old;
  library = all_library;
}
