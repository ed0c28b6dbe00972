use Rattle.std.proofs.Common.{◌++◌, ap, ◌∙◌, append-nil}
use Rattle.cel_syntax_ast.specs.Term.{term}
use Rattle.cel_vm_code.specs.Code.{code_in, code_of}
use Rattle.cel_vm_code.specs.CodeViews.{variables, from_end}
use Rattle.cel_vm_code.proofs.Compiles.{reversed_from_end}
use Rattle.cel_vm_code.proofs.compile.compile_tree.Goals as goal

pub returns-clause-value : goal.returns-clause-value
returns-clause-value c =
    let t = term c.args.expr.now in
    reversed_from_end c.write_tree.new.code.items c.reverse.new.self.items c.reverse.ensures.items
    ∙ c.in_ok-write_tree.ensures.value
    ∙ ap (λ xs. code_in (variables xs) t ++ from_end c.new-code.result.items) (c.as_slice.ensures.value ∙ c.new-names.ensures.items)
    ∙ ap (λ is. code_of t ++ from_end is) c.new-code.ensures.items
    ∙ append-nil (code_of t)
