use Rattle.std.proofs.Common.{◌≡◌, ◌+◌, List, [], ◌∷◌, ◌++◌, Result, map, drop, sym, ap, ◌∙◌, append_assoc, append-nil, arith}
use Rattle.std.proofs.lemmas.List.{at_drop_more}
use Rattle.std.proofs.Math.ListN.{drop_of_length-le}
use Rattle.kube_cel_analysis.proofs.rule.add_rules.Goals as goal
use Rattle.kube_cel_analysis.specs.Findings.{Finding, finding_view, rule_findings, rules_findings}
use Rattle.kube_schema.specs.Compilation.{compiled_seen}
use Rattle.kube_schema.specs.CompilationError.{CompilationError}
use Rattle.kube_schema.specs.CompilationResult.{CompilationResult}
use Rattle.kube_schema.specs.Shown.{node_tree}

pub loop-rule-preserved : goal.loop-rule-preserved
loop-rule-preserved c = λ names.
    let items = c.validations-rule-items.result.now in
    let i = c.loop-rule.rule-index in
    let had = map finding_view c.loop-rule.found.items in
    let f = rule_findings names c.args.pointer.now (node_tree c.args.node.now) in
    let rest : List (Result CompilationResult CompilationError) → List Finding = λ es. rules_findings names c.args.pointer.now (node_tree c.args.node.now) (map compiled_seen es) in
    ap (λ r. r ++ rest (drop (i + 1) items)) (c.in_ok-add_rule.ensures.found names)
    ∙ append_assoc had (f (compiled_seen c.rule-item.result)) (rest (drop (i + 1) items))
    ∙ ap (λ e. had ++ rest (e ∷ drop (i + 1) items)) c.rule-item.is
    ∙ sym (at_drop_more (λ es. had ++ rest es) items i c.rule-item.result (omega (arith, c.loop-rule-test.true)))
    ∙ c.loop-rule.invariant names

pub returns-clause-found : goal.returns-clause-found
returns-clause-found c = λ names.
    let items = c.validations-rule-items.result.now in
    let had = map finding_view c.loop-rule.found.items in
    let rest : List (Result CompilationResult CompilationError) → List Finding = λ es. rules_findings names c.args.pointer.now (node_tree c.args.node.now) (map compiled_seen es) in
    let gone : drop c.loop-rule.rule-index items ≡ [] = drop_of_length-le items (omega (arith, c.loop-rule-test.false)) in
    sym (append-nil had) ∙ ap (λ es. had ++ rest es) (sym gone) ∙ c.loop-rule.invariant names
    ∙ ap (λ rs. map finding_view c.args.found.now.items ++ rules_findings names c.args.pointer.now (node_tree c.args.node.now) rs) c.validations-rule-items.ensures
