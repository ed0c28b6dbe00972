use Rattle.std.proofs.Common.{map, string_bytes, ◌∙◌, ◌++◌, ap}
use Rattle.cel.specs.Program.{program_term}
use Rattle.cel_syntax.specs.References.{function_names}
use Rattle.cel_syntax.specs.Names.{names_of}
use Rattle.cel_syntax.specs.Term.{term}
use Rattle.kube_cel_analysis.proofs.Rules.{rule_reported}
use Rattle.kube_cel_analysis.proofs.rule.add_compiled.Goals as goal
use Rattle.kube_cel_analysis.specs.Findings.{finding_view, names_findings, warning_finding}
use Rattle.kube_cel_analysis.specs.Warnings.{remark_view, warning}
use Rattle.kube_schema.specs.Shown.{node_tree}

pub returns-clause-found : goal.returns-clause-found
returns-clause-found c = λ names.
    let rule = c.args.rule.now in
    let text = string_bytes rule.rule.rule in
    let p = c.args.pointer.now in
    let had = map finding_view c.add_names.new.found.items in
    let same = c.in_ok-text.ensures ∙ c.as_str.ensures.value in
    rule_reported names p text (node_tree c.args.node.now) (program_term rule.program) (term c.expression-expression.result.now)
    (function_names c.in_ok-references.references) (names_of c.functions.result.now) c.in_ok-remarks.remarks.items
    (map finding_view c.args.found.now.items) had (map finding_view c.add_remarks.new.found.items)
    c.expression-expression.ensures c.functions.ensures c.in_ok-references.ensures.functions c.in_ok-remarks.ensures.remarks
    (c.in_ok-add_names.ensures ∙ ap (λ t. map finding_view c.args.found.now.items ++ names_findings p t (names_of c.functions.result.now)) same)
    (c.in_ok-add_remarks.ensures ∙ ap (λ t. had ++ map (λ r. warning_finding p (warning t (remark_view r))) c.in_ok-remarks.remarks.items) same)
