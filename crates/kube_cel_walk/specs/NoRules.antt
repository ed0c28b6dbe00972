-- Scaffolding: only proofs and private clauses cite it.
-- Nodes below which there is no rule.
use Rattle.kube_cel_walk.specs.WalkAccessors.{WalkAccessors}
use Rattle.kube_schema_rules.specs.declared.branches.BranchKind.{BranchKind}
use Rattle.std.specs.Prelude.{◌≡◌, ℕ, zero, suc, List, [], Some}

module _ {S : Type 0} (form : WalkAccessors S) where
  -- P holds of each node that one step leads to
  abbrev pub EachChild : (S → Type 0) → S → Type 0
  EachChild P n =
      ((k : List ℕ) (m : S) → form.steps.property k n ≡ Some m → P m) × ((m : S) → form.steps.items n ≡ Some m → P m)
      × ((m : S) → form.steps.additional_property n ≡ Some m → P m)
      × ((kind : BranchKind) (i : ℕ) (m : S) → form.steps.branch kind i n ≡ Some m → P m)

  -- the node and those below it have no rules, and they are at most n levels
  unfoldable pub HasNoRules : ℕ → S → Type 0
  HasNoRules zero n = ⊥
  HasNoRules (suc k) n = (form.rules n ≡ []) × EachChild (HasNoRules k) n

  -- below the node there are at most n levels, and no node there has a rule
  abbrev pub HasNoRulesBelow : ℕ → S → Type 0
  HasNoRulesBelow n = EachChild (HasNoRules n)
