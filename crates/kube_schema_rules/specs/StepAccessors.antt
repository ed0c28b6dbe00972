-- Trusted by the headline.
-- What the walk reads of a schema's node, in any form of the schema.
use Rattle.kube_schema_rules.specs.declared.branches.BranchKind.{BranchKind}
use Rattle.serde_json.specs.Data.{Data}
use Rattle.std.specs.Prelude.{ℕ, List, Option}

pub record StepAccessors (S : Type 0) : Type 0 where
  -- the node that `properties` declares for a member
  pub property : List ℕ → S → Option S
  -- the node of all items
  pub items : S → Option S
  -- the node of all members that aren't declared
  pub additional_property : S → Option S
  -- the number of branches under a keyword
  pub branch_count : BranchKind → S → ℕ
  -- the branch at an index
  pub branch : BranchKind → ℕ → S → Option S
  -- the counterpart of a member, by its key, in the old value at the node
  pub old_member : List ℕ → S → Data → Option Data
  -- the counterpart of an item, by its index, of the list at the node, which stands first, in the old value there
  pub old_item : ℕ → S → Data → Data → Option Data
