-- Trusted by the headline.
-- A schema as JSON (Kubernetes documentation, "Specifying a structural schema").
use Rattle.kube_schema_rules.specs.Inside.{count_at}
use Rattle.kube_schema_rules.specs.StepAccessors.{StepAccessors}
use Rattle.kube_schema_rules.specs.Step.{keyword}
use Rattle.serde_json.specs.Data.{Data}
use Rattle.serde_json.specs.Find.{get, at, as_bool, as_object}
use Rattle.std.specs.Prelude.{ℕ, List, false, if◌then◌else◌, Option, Some, None, option_and_then, unwrap_or, is_some, codes}

-- the schema that `properties` declares for a key
unfoldable pub declared_property : List ℕ → Data → Option Data
declared_property key node = option_and_then (get key) (get (codes "properties") node)

-- the schema of undeclared keys: `additionalProperties`
-- if it is an object, unless unknown fields are preserved
unfoldable pub undeclared_property : Data → Option Data
undeclared_property node =
    if unwrap_or (option_and_then as_bool (get (codes "x-kubernetes-preserve-unknown-fields") node)) false
    then None
    else option_and_then (λ schema. if is_some (as_object schema) then Some schema else None)
    (get (codes "additionalProperties") node)

unfoldable pub raw_steps : StepAccessors Data
raw_steps = record {
  property = declared_property;
  items = get (codes "items");
  additional_property = undeclared_property;
  branch_count = λ kind node. count_at (get (keyword kind) node);
  branch = λ kind index node. option_and_then (at index) (get (keyword kind) node);
  old_member = λ key node old. get key old;
  old_item = λ index node value old. at index old;
}
