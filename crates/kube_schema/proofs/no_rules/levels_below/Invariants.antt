use Rattle.std.proofs.Common.{◌≡◌, length}
use Rattle.kube_schema.specs.NoRules.{AreKnown}
use Rattle.kube_schema.proofs.no_rules.levels_below.Given as goal

abbrev pub invariant-loop-done : goal.invariant-loop-done
invariant-loop-done g l = record { long : length l.below.items ≡ l.count; known : AreKnown g.K.NodeKeywords.own l.table.nodes.items l.below.items }
