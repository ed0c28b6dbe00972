-- Trusted by the headline.
-- What lies at a place of a schema and a JSON value (Kubernetes documentation,
-- "Validation rules": a rule is scoped to the part of the object where its
-- `x-kubernetes-validations` stands), and where steps lead from there.
use Rattle.kube_schema_rules.specs.declared.branches.BranchKind.{BranchKind}
use Rattle.kube_schema_rules.specs.declared.branches.BranchKind.TheVariants.{AllOf, OneOf, AnyOf}
use Rattle.kube_schema_rules.specs.Inside.{keys_at, count_at, in_order, up_to}
use Rattle.kube_schema_rules.specs.StepAccessors.{StepAccessors}
use Rattle.kube_schema_rules.specs.Step.{Step, property, item, additional_property, branch}
use Rattle.serde_json.specs.Data.{Data}
use Rattle.serde_json.specs.Find.{get, at}
use Rattle.std.specs.Prelude.{ℕ, ◌+◌, List, [], ◌∷◌, ◌++◌, map, Option, Some, None, option_map, option_and_then, decimal}

-- the root context: the API version, API group and kind of the whole object
pub record Root : Type 0 where
  pub api_version : List ℕ
  pub api_group : List ℕ
  pub kind : List ℕ

-- S is the type of the schema's nodes, in any form
pub record Visit (S : Type 0) : Type 0 where
  -- the node of the schema
  pub node : S
  -- the value in the object
  pub value : Data
  -- its old counterpart, if any: what the steps' counterparts lead to in the old object
  pub old : Option Data
  -- the root context, at the root and at places that only branches lead to from there
  pub root : Option Root
  -- the text of the path
  pub path : List ℕ
  -- the number of steps from the root
  pub depth : ℕ

abbrev pub visit : {S : Type 0} → S → Data → Option Data → Option Root → List ℕ → ℕ → Visit S
visit node value old root path depth = record {
  node = node;
  value = value;
  old = old;
  root = root;
  path = path;
  depth = depth;
}

-- the visit at which every walk begins
abbrev pub root_visit : {S : Type 0} → S → Data → Option Data → Option Root → Visit S
root_visit node value old root = visit node value old root [] 0

-- a path followed by a key: `k` after the empty path, else `.k`
unfoldable pub member_path : List ℕ → List ℕ → List ℕ
member_path [] key = key
member_path (b ∷ bs) key = (b ∷ bs) ++ 46 ∷ key

-- a path followed by an index: `[i]`
unfoldable pub item_path : List ℕ → ℕ → List ℕ
item_path path index = path ++ 91 ∷ (decimal index ++ 93 ∷ [])

-- the visit one step further, if node and value both exist there
abbrev pub further : {S : Type 0} → Option Root → ℕ → List ℕ
    → Option S → Option Data → Option Data → Option (Visit S)
further root depth path node value old =
    option_and_then (λ n. option_map (λ v. visit n v old root path (depth + 1)) value) node

-- the second node, unless the first exists
abbrev pub unless_there : {S : Type 0} → Option S → Option S → Option S
unless_there None o = o
unless_there (Some s) o = None

module _ {S : Type 0} (steps : StepAccessors S) where
  -- where a step leads, if it is allowed: to a declared
  -- member, an item, a member that isn't declared, or a branch
  unfoldable pub goes : Step → Visit S → Option (Visit S)
  goes (property k) s =
      further None s.depth (member_path s.path k) (steps.property k s.node)
      (get k s.value) (option_and_then (steps.old_member k s.node) s.old)
  goes (item i) s =
      further None s.depth (item_path s.path i) (steps.items s.node)
      (at i s.value) (option_and_then (steps.old_item i s.node s.value) s.old)
  goes (additional_property k) s =
      further None s.depth (member_path s.path k)
      (unless_there (steps.property k s.node) (steps.additional_property s.node))
      (get k s.value) (option_and_then (steps.old_member k s.node) s.old)
  goes (branch kind j) s = further s.root s.depth s.path (steps.branch kind j s.node) (Some s.value) s.old

  -- the steps that may be allowed, by kind: members are reached only by keys that the value has
  unfoldable pub property_steps : Visit S → List Step
  property_steps s = map property (in_order (keys_at (Some s.value)))

  unfoldable pub item_steps : Visit S → List Step
  item_steps s = map item (up_to (count_at (Some s.value)))

  unfoldable pub additional_steps : Visit S → List Step
  additional_steps s = map additional_property (in_order (keys_at (Some s.value)))

  unfoldable pub branch_steps : BranchKind → Visit S → List Step
  branch_steps kind s = map (branch kind) (up_to (steps.branch_count kind s.node))

  -- all of them, in order
  unfoldable pub candidates : Visit S → List Step
  candidates s =
      property_steps s ++ (item_steps s
      ++ (additional_steps s ++ (branch_steps AllOf s ++ (branch_steps OneOf s ++ branch_steps AnyOf s))))
