use Rattle.std.proofs.Common.{◌≡◌, take, map}
use Rattle.serde_json.specs.View.{view}
use Rattle.kube_schema_rules.specs.Compilation.{compiled_seen, compiled_rule_by}
use Rattle.kube_schema_rules.proofs.compilation.rules_by.Given as goal

abbrev pub invariant-loop-value : goal.invariant-loop-value
invariant-loop-value g l = map compiled_seen l.rules.items ≡ map (λ v. compiled_rule_by (g.C.RuleCompiler.compiled l.compiler) (view v)) (take l.value-index l.values)
