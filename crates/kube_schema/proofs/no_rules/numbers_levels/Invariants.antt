use Rattle.std.proofs.Common.{◌≡◌, ℕ, ◌<◌, slice_get, Some}
use Rattle.kube_schema.specs.declared.nodes.NodeId.{NodeId}
use Rattle.kube_schema.specs.NoRules.{HasNoRules}
use Rattle.kube_schema.specs.Raw.{tree}
use Rattle.kube_schema.proofs.no_rules.numbers_levels.Given as goal

abbrev pub invariant-loop-number : goal.invariant-loop-number
invariant-loop-number g l = (i : ℕ) (x : NodeId) → i < l.number-index → slice_get l.numbers i ≡ Some x → HasNoRules l.most (tree g.K.NodeKeywords.own l.table.nodes.items x.0)
