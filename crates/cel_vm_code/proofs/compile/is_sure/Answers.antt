use Rattle.std.proofs.Common.{map, sym, ap, ◌∙◌}
use Rattle.std.proofs.lemmas.List.{length-map}
use Rattle.std.specs.Prelude.{◌==◌}
use Rattle.cel_syntax_ast.specs.Term.{Term, term}
use Rattle.cel_syntax_ast.specs.declared.expr.Expr.{Expr}
use Rattle.cel_vm_code.specs.Code.{is_sure, code_in}
use Rattle.cel_vm_code.specs.CodeViews.{variables}
use Rattle.cel_vm_code.proofs.Sure.{may_be_sure, unsure, sure_map, unsure_macro}
use Rattle.cel_vm_code.proofs.Terms.{is_select, is_has, is_index, is_unary, is_binary, is_conditional, is_list, is_map}
use Rattle.cel_vm_code.proofs.compile.is_sure.Goals as goal

pub returns-in-Select : goal.returns-in-Select
returns-in-Select c = unsure (variables c.args.names.now) (term c.args.expr.now) (ap may_be_sure (ap term c.in-Select.is ∙ is_select c.in-Select.field-0 c.in-Select.field-1))

pub returns-in-Has : goal.returns-in-Has
returns-in-Has c = unsure (variables c.args.names.now) (term c.args.expr.now) (ap may_be_sure (ap term c.in-Has.is ∙ is_has c.in-Has.field-0 c.in-Has.field-1))

pub returns-in-Index : goal.returns-in-Index
returns-in-Index c = unsure (variables c.args.names.now) (term c.args.expr.now) (ap may_be_sure (ap term c.in-Index.is ∙ is_index c.in-Index.field-0 c.in-Index.field-1))

pub returns-in-Unary : goal.returns-in-Unary
returns-in-Unary c = unsure (variables c.args.names.now) (term c.args.expr.now) (ap may_be_sure (ap term c.in-Unary.is ∙ is_unary c.in-Unary.field-0 c.in-Unary.field-1))

pub returns-in-Binary : goal.returns-in-Binary
returns-in-Binary c = unsure (variables c.args.names.now) (term c.args.expr.now) (ap may_be_sure (ap term c.in-Binary.is ∙ is_binary c.in-Binary.field-0 c.in-Binary.field-1 c.in-Binary.field-2))

pub returns-in-Cond : goal.returns-in-Cond
returns-in-Cond c = unsure (variables c.args.names.now) (term c.args.expr.now) (ap may_be_sure (ap term c.in-Cond.is ∙ is_conditional c.in-Cond.field-0 c.in-Cond.field-1 c.in-Cond.field-2))

pub returns-in-List : goal.returns-in-List
returns-in-List c = unsure (variables c.args.names.now) (term c.args.expr.now) (ap may_be_sure (ap term c.in-List.is ∙ is_list c.in-List.field-0))

pub returns-in-Macro : goal.returns-in-Macro
returns-in-Macro c =
    let m = c.in-Macro in unsure_macro (variables c.args.names.now) c.args.expr.now m.kind m.range m.variable m.filter m.body m.is

pub returns-in-Map : goal.returns-in-Map
returns-in-Map c =
    let xs = variables c.args.names.now in
    let pair : Expr × Expr → Term × Term = λ p. (term p.0, term p.1) in
    let es = c.in-Map.pairs.items in
    c.is_empty.ensures ∙ ap (λ n. n == 0) (c.in-Map.pairs.ok.0 ∙ sym (length-map es pair)) ∙ sym (sure_map xs (map pair es))
    ∙ sym (ap (λ t. is_sure (code_in xs t)) (ap term c.in-Map.is ∙ is_map c.in-Map.pairs))
