use Rattle.std.proofs.Common.{◌≡◌, drop}
use Rattle.serde_json.specs.Data.{Data}
use Rattle.serde_json.specs.View.{members_view}
use Rattle.kube_schema_values.specs.Defaults.{default_by, with_defaults}
use Rattle.kube_schema.specs.CompiledDefaults.{tree_accessors}
use Rattle.kube_schema.specs.Shown.{node_tree}
use Rattle.kube_schema.specs.Tree.{Node, named_of, names}
use Rattle.kube_schema.proofs.sharing.lacks_no_key.Given as goal

abbrev pub invariant-loop-index : goal.invariant-loop-index
invariant-loop-index g l = (f : Node → Data → Data)
    → with_defaults (default_by tree_accessors f (node_tree l.node)) (drop l.index (names (named_of (node_tree l.node)))) (members_view l.members.entries)
    ≡ with_defaults (default_by tree_accessors f (node_tree l.node)) (names (named_of (node_tree l.node))) (members_view l.members.entries)
