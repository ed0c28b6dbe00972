-- Trusted by the headline.
-- The steps of places, and their order.
use Rattle.kube_schema_rules.specs.declared.branches.BranchKind.{BranchKind}
use Rattle.kube_schema_rules.specs.declared.branches.BranchKind.TheVariants.{AllOf, OneOf, AnyOf}
use Rattle.std.specs.Cmp.Lexicographic.{slice_cmp}
use Rattle.std.specs.declared.cmp.Ordering.{Ordering}
use Rattle.std.specs.Ordering.{nat_cmp, on, then_cmp}
use Rattle.std.specs.Prelude.{ℕ, List, [], ◌∷◌, codes}

-- one step through schema and value
pub data Step : Type 0 where
  -- to a declared member
  property : List ℕ → Step
  -- to an item of a list
  item : ℕ → Step
  -- to a member that isn't declared
  additional_property : List ℕ → Step
  -- to a branch, which stays at the same value
  branch : BranchKind → ℕ → Step

abbrev pub keyword : BranchKind → List ℕ
keyword AllOf = codes "allOf"
keyword OneOf = codes "oneOf"
keyword AnyOf = codes "anyOf"

abbrev pub branch_rank : BranchKind → ℕ
branch_rank AllOf = 3
branch_rank OneOf = 4
branch_rank AnyOf = 5

-- the order of the kinds
abbrev pub step_rank : Step → ℕ
step_rank (property key) = 0
step_rank (item index) = 1
step_rank (additional_property key) = 2
step_rank (branch kind index) = branch_rank kind

-- what distinguishes a step from others of its kind: the bytes of a key, or an index
abbrev pub step_content : Step → List ℕ
step_content (property key) = key
step_content (item index) = index ∷ []
step_content (additional_property key) = key
step_content (branch kind index) = index ∷ []

-- by kind; steps of one kind by the bytes of the key or by the index
abbrev pub step_cmp : Step → Step → Ordering
step_cmp = then_cmp (on step_rank nat_cmp) (on step_content (slice_cmp nat_cmp))

-- a place comes before its continuations; else the first step that differs decides
abbrev pub place_cmp : List Step → List Step → Ordering
place_cmp = slice_cmp step_cmp
