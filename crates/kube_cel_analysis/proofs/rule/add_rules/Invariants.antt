use Rattle.std.proofs.Common.{◌≡◌, ◌++◌, map, drop}
use Rattle.kube_cel_analysis.proofs.rule.add_rules.Given as goal
use Rattle.kube_cel_analysis.specs.Findings.{Naming, finding_view, rules_findings}
use Rattle.kube_schema.specs.Compilation.{compiled_seen}
use Rattle.kube_schema.specs.Shown.{node_tree}

abbrev pub invariant-loop-rule : goal.invariant-loop-rule
invariant-loop-rule l = (names : Naming)
    → map finding_view l.found.items ++ rules_findings names l.pointer (node_tree l.node) (map compiled_seen (drop l.rule-index l.rule-items))
    ≡ map finding_view l.fn.found.items ++ rules_findings names l.pointer (node_tree l.node) (map compiled_seen l.rule-items)
