use Rattle.std.proofs.Common.{sym, subst}
use Rattle.serde_json.specs.View.{view}
use Rattle.kube_schema_values.specs.Defaults.{FillsMembers}
use Rattle.kube_schema_values.proofs.Members.{fills_members}
use Rattle.kube_schema.specs.CompiledDefaults.{tree_accessors}
use Rattle.kube_schema.specs.Shown.{node_tree}
use Rattle.kube_schema.proofs.Names.{compiled_names_keys}
use Rattle.kube_schema.proofs.defaults.fill_node.Goals as goal

pub returns-clause-members : goal.returns-clause-members
returns-clause-members g c = subst (FillsMembers tree_accessors 64 (node_tree c.args.node.now) (view c.args.value.now)) (sym c.in_ok-filled.ensures) (fills_members tree_accessors compiled_names_keys 64 (node_tree c.args.node.now) (view c.args.value.now))
