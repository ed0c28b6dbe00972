use Rattle.std.proofs.Common.{◌≡◌, drop}
use Rattle.kube_schema.specs.Raw.{any_default}
use Rattle.kube_schema.proofs.table.has_defaults.Given as goal

abbrev pub invariant-loop-node : goal.invariant-loop-node
invariant-loop-node g l = any_default g.K.NodeKeywords.own (drop l.node-index l.node-items) ≡ any_default g.K.NodeKeywords.own l.node-items
