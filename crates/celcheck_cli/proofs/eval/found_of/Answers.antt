use Rattle.cel.specs.Program.{program_seen, program_term}
use Rattle.cel.specs.Bindings.{bindings_of}
use Rattle.cel.specs.Outcome.{outcome_view}
use Rattle.celcheck_cli.proofs.Reports.{came_to, if_found, unread_found}
use Rattle.celcheck_cli.proofs.eval.found_of.Goals as goal
use Rattle.celcheck_cli.specs.declared.eval.Found.TheVariants as found
use Rattle.cel_value.specs.Faults.{fault_view}
use Rattle.cel_value.specs.View.{view}
use Rattle.std.proofs.Common.{Ok, Err, refl, sym, ap, ◌∙◌}

pub returns-in-Err : goal.returns-in-Err
returns-in-Err c = unread_found c.args.text.now c.in-Err.errors (ap program_seen (sym c.in-Err.is) ∙ c.in_ok-program.ensures.reads)

pub returns-in-Ok-2 : goal.returns-in-Ok-2
returns-in-Ok-2 c =
    if_found c.args.text.now (Ok (view c.in-Ok-2.value)) c.found_value.result
    (λ f. came_to c.args.text.now (program_term c.in-Ok.program) (bindings_of c.default-context.result) (Ok (view c.in-Ok-2.value)) (outcome_view c.in_ok-value.field-0) f
    (ap program_seen (sym c.in-Ok.is) ∙ c.in_ok-program.ensures.reads) c.default-context.ensures.variables (ap outcome_view (sym c.in-Ok-2.is)) c.in_ok-value.ensures.value)
    c.found_value.ensures

pub returns : goal.returns
returns c =
    came_to c.args.text.now (program_term c.in-Ok.program) (bindings_of c.default-context.result) (Err (fault_view c.in-Err-2.fault)) (outcome_view c.in_ok-value.field-0) (found.Fault c.in-Err-2.fault)
    (ap program_seen (sym c.in-Ok.is) ∙ c.in_ok-program.ensures.reads) c.default-context.ensures.variables (ap outcome_view (sym c.in-Err-2.is)) c.in_ok-value.ensures.value (refl, refl)
