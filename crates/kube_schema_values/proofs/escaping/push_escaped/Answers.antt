use Rattle.std.proofs.Common.{◌++◌, sym, ap, ◌∙◌, append-nil, string_bytes}
use Rattle.std.specs.Str.Iter.{chars_rest}
use Rattle.kube_schema_values.specs.Escape.{held_text}
use Rattle.kube_schema_values.proofs.Escapes.{escaped_text-last}
use Rattle.kube_schema_values.proofs.escaping.push_escaped.Goals as goal

pub returns-in_ok-push_str : goal.returns-in_ok-push_str
returns-in_ok-push_str c =
    let l = c.loop-character in
    let last = escaped_text-last l.holds_underscore (chars_rest l.character-iterator) c.in-None.ensures.steps.0.0 in
    c.in_ok-push_str.ensures.bytes ∙ ap (λ s. string_bytes l.out ++ s) (sym (last ∙ ap held_text c.if-holds_underscore.true)) ∙ l.invariant

pub returns-else-holds_underscore : goal.returns-else-holds_underscore
returns-else-holds_underscore c =
    let l = c.loop-character in
    let last = escaped_text-last l.holds_underscore (chars_rest l.character-iterator) c.in-None.ensures.steps.0.0 in
    sym (append-nil (string_bytes l.out)) ∙ ap (λ s. string_bytes l.out ++ s) (sym (last ∙ ap held_text c.if-holds_underscore.false)) ∙ l.invariant
