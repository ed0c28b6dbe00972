use Rattle.cel.specs.Checks as check
use Rattle.cel.specs.Checks.{check_view}
use Rattle.kube_schema_rules.proofs.Compiled.{texts_so}
use Rattle.kube_schema_rules.proofs.compilation.check_of.Goals as goal
use Rattle.kube_schema_rules.specs.Compilation.{error_view}
use Rattle.kube_schema_rules.specs.Rules.{rule_view}
use Rattle.std.proofs.Common.{Err, Ok, option_map, refl, sym, ap, ◌∙◌}

pub returns-in-Ok-clause-check : goal.returns-in-Ok-clause-check
returns-in-Ok-clause-check g c =
    texts_so (g.C.Compiler.tree c.args.compiler.now) (rule_view c.args.rule.now) c.as_str-text.result.now (option_map (λ m. m.now) c.as_deref-message.result) (Ok (check_view c.in-Ok.check)) (Ok (check_view c.in-Ok.check))
    c.as_str-text.ensures.value c.as_deref-message.ensures.value (sym (ap check.check_seen c.in-Ok.is) ∙ c.in_ok-check.ensures.compiled) refl

pub returns-in_ok-unread_error-in-Err-clause-check : goal.returns-in_ok-unread_error-in-Err-clause-check
returns-in_ok-unread_error-in-Err-clause-check g c =
    texts_so (g.C.Compiler.tree c.args.compiler.now) (rule_view c.args.rule.now) c.as_str-text.result.now (option_map (λ m. m.now) c.as_deref-message.result) (Err (check.error_view c.in-Err.error)) (Err (error_view c.in_ok-unread_error-in-Err.field-0))
    c.as_str-text.ensures.value c.as_deref-message.ensures.value (sym (ap check.check_seen c.in-Err.is) ∙ c.in_ok-check.ensures.compiled) (ap Err c.in_ok-unread_error-in-Err.ensures)
