-- A node of a compiled schema below which there is no rule is one for the walk, too.
use Rattle.kube_cel.specs.Compiled.{compiled_accessors}
use Rattle.kube_cel.specs.CompiledSteps.{compiled_steps}
use Rattle.kube_cel_walk.specs.NoRules.{HasNoRules, HasNoRulesBelow}
use Rattle.kube_schema.specs.NoRules.{HasNoRules as HasNoRulesInTree, HasNoRulesBelow as HasNoRulesBelowInTree}
use Rattle.kube_schema.specs.Tree.{Node, own, additional_of}
use Rattle.std.proofs.Common.{◌≡◌, ℕ, zero, suc, Bool, true, false, Option, Some, None, if◌then◌else◌}

unless_preserved : (b : Bool) (o : Option Node) (m : Node) → (if b then None else o) ≡ Some m → o ≡ Some m
unless_preserved true o m e = cc
unless_preserved false o m e = e

below_by : (k : ℕ) (n : Node) → ((m : Node) → HasNoRulesInTree k m → HasNoRules compiled_accessors k m) → HasNoRulesBelowInTree k n → HasNoRulesBelow compiled_accessors k n
unfolding compiled_accessors compiled_steps
below_by k n f q = (
  λ x m e. f m (q.0 x m e),
  λ m e. f m (q.1 m e),
  λ m e. f m (q.2 m (unless_preserved (own n).preserves (additional_of n) m e)),
  λ kind i m e. f m (q.3 kind i m e),
)

no_rules : (k : ℕ) (n : Node) → HasNoRulesInTree k n → HasNoRules compiled_accessors k n
unfolding HasNoRulesInTree HasNoRules compiled_accessors
no_rules zero n q = absurd q
no_rules (suc k) n q = (q.0, below_by k n (no_rules k) q.1)

pub no_rules_below : (k : ℕ) (n : Node) → HasNoRulesBelowInTree k n → HasNoRulesBelow compiled_accessors k n
no_rules_below k n q = below_by k n (no_rules k) q
