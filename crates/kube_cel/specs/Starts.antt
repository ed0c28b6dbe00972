-- Trusted by the headline.
-- The visits at which calls begin.
use Rattle.kube_schema.specs.Visit.{Visit, Root, root_visit}
use Rattle.kube_cel_walk.specs.declared.root.RootContext.{RootContext}
use Rattle.kube_cel_walk.specs.Roots.{root_view}
use Rattle.kube_schema.specs.Defaults.{defaulted_value}
use Rattle.kube_schema.specs.DefaultsAccessors.{raw}
use Rattle.kube_schema.specs.CompiledDefaults.{tree_accessors}
use Rattle.kube_schema.specs.declared.node.CompiledSchema.{CompiledSchema}
use Rattle.kube_schema.specs.declared.node_keywords.NodeKeywords.{Ghosts}
use Rattle.kube_schema.specs.Shown.{whole}
use Rattle.kube_schema.specs.Tree.{Node}
use Rattle.serde_json.specs.Data.{Data}
use Rattle.serde_json.specs.declared.value.Value.{Value}
use Rattle.serde_json.specs.View.{view}
use Rattle.std.specs.Borrow.{Bor}
use Rattle.std.specs.Prelude.{Option, option_map}

-- a value filled with the defaults of its schema
abbrev pub with_schema_defaults : Data → Data → Data
with_schema_defaults schema value = defaulted_value raw 65 schema value

-- the start of a walk: a schema, a value and an old value, both filled with the schema's defaults
abbrev pub defaulted_start : Data → Data → Option Data → Option Root → Visit Data
defaulted_start schema value old root =
    root_visit schema (with_schema_defaults schema value) (option_map (with_schema_defaults schema) old) root

-- the same for the arguments of a call
abbrev pub call_start : Value → Value → Option (Bor Value) → Option (Bor RootContext) → Visit Data
call_start schema value old root =
    defaulted_start (view schema) (view value)
    (option_map (λ v. view v.now) old) (option_map (λ r. root_view r.now) root)

-- the start of a walk over values that already have their defaults
abbrev pub start_without_defaults : {S : Type 0} → S → Value
    → Option (Bor Value) → Option (Bor RootContext) → Visit S
start_without_defaults node value old root =
    root_visit node (view value) (option_map (λ v. view v.now) old) (option_map (λ r. root_view r.now) root)

-- the start at the tree of a schema, with both values filled by that tree
abbrev pub tree_start : Node → Data → Option Data → Option Root → Visit Node
tree_start tree value old root =
    root_visit tree (defaulted_value tree_accessors 65 tree value)
    (option_map (defaulted_value tree_accessors 65 tree) old) root

-- the start at the tree of a compiled schema
abbrev pub compiled_start : {K : Type 0} {g : Ghosts K} → CompiledSchema K g → Value
    → Option (Bor Value) → Option (Bor RootContext) → Visit Node
compiled_start schema value old root =
    tree_start (whole schema) (view value) (option_map (λ v. view v.now) old)
    (option_map (λ r. root_view r.now) root)

-- the start at the schema from which a compiled one was made, with the arguments of a call
abbrev pub source_start : Data → Value → Option (Bor Value) → Option (Bor RootContext) → Visit Data
source_start schema value old root =
    defaulted_start schema (view value) (option_map (λ v. view v.now) old)
    (option_map (λ r. root_view r.now) root)
