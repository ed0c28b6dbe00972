use Rattle.std.proofs.Common.{refl}
use Rattle.serde_json.specs.View.{view}
use Rattle.kube_schema_values.proofs.Without.{all_stays}
use Rattle.kube_schema.specs.CompiledDefaults.{tree_accessors}
use Rattle.kube_schema.specs.Shown.{node_tree}
use Rattle.kube_schema.proofs.sharing.is_filled.Goals as goal

pub returns-then-not-may_have_defaults : goal.returns-then-not-may_have_defaults
returns-then-not-may_have_defaults g c = λ yes. all_stays tree_accessors 65 (node_tree c.args.node.now) (view c.args.value.now) (c.if-not-may_have_defaults.ensures refl 65)
