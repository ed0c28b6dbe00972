use Rattle.std.proofs.Common.{◌≡◌, ◌≤◌, codes, length, drop, map, option_map}
use Rattle.cel.specs.Demand.{part_of}
use Rattle.kube_schema_rules.specs.Compilation.{compiled_seen}
use Rattle.kube_schema_rules.specs.Demands.{rules_read}
use Rattle.kube_schema_rules.proofs.demands.rules_demands.Given as goal

abbrev pub invariant-loop-left : goal.invariant-loop-left
invariant-loop-left l = record {
  within : l.left ≤ length l.rules;
  value : option_map part_of l.demands.value ≡ rules_read (codes "self") (map compiled_seen (drop l.left l.rules));
  old : option_map part_of l.demands.old ≡ rules_read (codes "oldSelf") (map compiled_seen (drop l.left l.rules));
}

abbrev pub decreases-loop-left : goal.decreases-loop-left
decreases-loop-left l = l.left
