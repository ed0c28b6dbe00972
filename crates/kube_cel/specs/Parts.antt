-- Trusted by laws alone.
-- The part that a CEL expression finds in the value of
-- `self` along the steps that lead on from a place.
use Rattle.cel.specs.Members.{index_outcome, selection}
use Rattle.cel.specs.Outcome.{Outcome}
use Rattle.cel_value.specs.Data.{Data, int, text_key}
use Rattle.kube_schema.specs.Step.{Step, property, item, additional_property, branch}
use Rattle.kube_schema.specs.Visit.{Visit, goes}
use Rattle.kube_cel_walk.specs.WalkAccessors.{WalkAccessors}
use Rattle.kube_schema.specs.Conversion.{ConversionAccessors, member_key}
use Rattle.std.specs.Prelude.{List, [], ◌∷◌, Bool, true, false, pos, Option, Some, Ok, option_and_then}
use Rattle.std.specs.Result.{result_ok}

-- a step to a branch, which stays at the same value
abbrev pub is_branch : Step → Bool
is_branch (property k) = false
is_branch (item i) = false
is_branch (additional_property k) = false
is_branch (branch kind j) = true

-- `conversion` says how objects are converted
module _ {S : Type 0} (form : WalkAccessors S) (conversion : ConversionAccessors S) where
  -- one step into the value at a node: `self.name`, where the name
  -- is escaped unless the node is a map node, or `self[index]`
  abbrev pub part_at : S → Step → Data → Outcome
  part_at node (property k) v = selection (text_key (member_key conversion node k)) v
  part_at node (item i) v = index_outcome v (int (pos i))
  part_at node (additional_property k) v = selection (text_key (member_key conversion node k)) v
  part_at node (branch kind j) v = Ok v

  -- along all steps, if the walk can take each of them
  unfoldable pub part_along : List Step → Visit S → Data → Option Data
  part_along [] s v = Some v
  part_along (p ∷ ps) s v =
      option_and_then (λ t. option_and_then (part_along ps t) (result_ok (part_at s.node p v)))
      (goes form.steps p s)
