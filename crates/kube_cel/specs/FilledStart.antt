-- Scaffolding: only proofs and private clauses cite it.
-- The start of a walk over a value that already has its defaults.
use Rattle.kube_cel_walk.specs.declared.root.RootContext.{RootContext}
use Rattle.kube_cel_walk.specs.Roots.{root_view}
use Rattle.kube_schema.specs.Visit.{Visit, root_visit}
use Rattle.kube_schema.specs.Defaults.{defaulted_value}
use Rattle.kube_schema.specs.CompiledDefaults.{tree_accessors}
use Rattle.kube_schema.specs.Tree.{Node}
use Rattle.serde_json.specs.declared.value.Value.{Value}
use Rattle.serde_json.specs.View.{view}
use Rattle.std.specs.Borrow.{Bor}
use Rattle.std.specs.Prelude.{Option, option_map}

-- at a tree, with an old value that is filled by the tree
abbrev pub filled_start : Node → Value → Option (Bor Value) → Option (Bor RootContext) → Visit Node
filled_start tree value old root =
    root_visit tree (view value)
    (option_map (defaulted_value tree_accessors 65 tree) (option_map (λ v. view v.now) old))
    (option_map (λ r. root_view r.now) root)
