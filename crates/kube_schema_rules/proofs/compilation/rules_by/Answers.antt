use Rattle.std.proofs.Common.{◌≡◌, take, map, take_all, sym, ap, ◌∙◌}
use Rattle.serde_json.specs.View.{view}
use Rattle.kube_schema_rules.specs.Compilation.{compiled_rule_by, compiled_rules_by}
use Rattle.kube_schema_rules.proofs.Compiled.{compiled_rules_is}
use Rattle.kube_schema_rules.proofs.compilation.rules_by.Goals as goal

pub returns-clause-rules : goal.returns-clause-rules
returns-clause-rules g c =
    let compile = g.C.RuleCompiler.compiled c.args.compiler.now in
    let values = c.rule_values-values.result.now in
    let all : take c.loop-value.value-index values ≡ values = take_all c.loop-value.value-index values c.loop-value-test.false in
    c.loop-value.invariant ∙ ap (map (λ v. compiled_rule_by compile (view v))) all ∙ sym (compiled_rules_is compile values) ∙ ap (compiled_rules_by compile) c.rule_values-values.ensures
