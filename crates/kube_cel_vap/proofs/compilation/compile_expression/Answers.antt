use Rattle.cel.specs.Checks as check
use Rattle.cel.specs.Checks.{check_view}
use Rattle.kube_cel_vap.proofs.Compiled.{compiled_so}
use Rattle.kube_cel_vap.proofs.compilation.compile_expression.Goals as goal
use Rattle.kube_cel_vap.specs.Expressions.{compiled_view, error_view}
use Rattle.kube_cel_vap.specs.Validations.{expression_view}
use Rattle.std.proofs.Common.{Err, Ok, option_map, sym, ap, ◌∙◌}

pub returns-in_ok-with_check-in-Ok-clause-compiled : goal.returns-in_ok-with_check-in-Ok-clause-compiled
returns-in_ok-with_check-in-Ok-clause-compiled c =
    compiled_so (expression_view c.args.expression.now) c.as_str-text.result.now (option_map (λ m. m.now) c.as_deref-message.result)
    (Ok (check_view c.in-Ok.check)) (Ok (compiled_view c.in_ok-with_check-in-Ok.field-0)) c.as_str-text.ensures.value c.as_deref-message.ensures.value
    (sym (ap check.check_seen c.in-Ok.is) ∙ c.in_ok-check.ensures.compiled) (ap Ok c.in_ok-with_check-in-Ok.ensures)

pub returns-in_ok-unread_error-in-Err-clause-compiled : goal.returns-in_ok-unread_error-in-Err-clause-compiled
returns-in_ok-unread_error-in-Err-clause-compiled c =
    compiled_so (expression_view c.args.expression.now) c.as_str-text.result.now (option_map (λ m. m.now) c.as_deref-message.result)
    (Err (check.error_view c.in-Err.error)) (Err (error_view c.in_ok-unread_error-in-Err.field-0)) c.as_str-text.ensures.value c.as_deref-message.ensures.value
    (sym (ap check.check_seen c.in-Err.is) ∙ c.in_ok-check.ensures.compiled) (ap Err c.in_ok-unread_error-in-Err.ensures)
