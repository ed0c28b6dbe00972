use Rattle.std.proofs.Common.{◌≡◌, ℕ, ◌<◌, slice_get, Some}
use Rattle.kube_schema.specs.declared.nodes.PropertyLink.{PropertyLink}
use Rattle.kube_schema.specs.NoRules.{HasNoRules}
use Rattle.kube_schema.specs.Raw.{tree}
use Rattle.kube_schema.proofs.no_rules.links_levels.Given as goal

abbrev pub invariant-loop-link : goal.invariant-loop-link
invariant-loop-link g l = (i : ℕ) (x : PropertyLink) → i < l.link-index → slice_get l.links i ≡ Some x → HasNoRules l.most (tree g.K.NodeKeywords.own l.table.nodes.items x.node.0)
