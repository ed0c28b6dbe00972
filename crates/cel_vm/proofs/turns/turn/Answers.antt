use Rattle.std.proofs.Common.{sym, ap, ◌∙◌, true≢false}
use Rattle.cel_semantics.specs.Bindings.{bindings_of, functions_of}
use Rattle.cel_vm.specs.Machine.{may_lead_to}
use Rattle.cel_vm_code.specs.Op.{op}
use Rattle.cel_vm.specs.State.{values_of, pending_of, loops_of}
use Rattle.cel_vm.proofs.Walks.{apply_reaches}
use Rattle.cel_vm.proofs.turns.turn.Goals as goal

pub unreachable-requires-in-Next : goal.unreachable-requires-in-Next
unreachable-requires-in-Next g c = true≢false (sym (ap (λ i. may_lead_to (op i) 0 0) c.in-Next.is) ∙ c.requires.ordinary 0 0)

pub returns-in-Apply-clause-value : goal.returns-in-Apply-clause-value
returns-in-Apply-clause-value g c =
    apply_reaches (g.F.Functions.library (functions_of c.args.context.now)) (bindings_of c.args.context.now) _ c.args.pc c.args.end (values_of c.args.stacks.now) _ (pending_of c.args.stacks.now) (loops_of c.args.stacks.now) c.args.instr.now _ _ c.apply.result (ap op c.in-Apply.is) c.apply.ensures.value

pub test_form-requires-clause-found : goal.test_form-requires-clause-found
test_form-requires-clause-found g c = λ found.
    ap (λ f. (g.F.Functions.library f).form_of c.as_str-in-Form.result.now c.in-Form.receiver c.in-Form.count) c.functions.ensures
    ∙ ap (λ x. (g.F.Functions.library (functions_of c.args.context.now)).form_of x c.in-Form.receiver c.in-Form.count) c.as_str-in-Form.ensures
    ∙ c.requires.found c.in-Form.name c.in-Form.receiver c.in-Form.count c.in-Form.offset found (ap op c.in-Form.is)
