use Rattle.std.proofs.Common.{◌++◌, ap, ◌∙◌, append_assoc, string_bytes, codes, ◌∷◌, []}
use Rattle.kube_schema_values.specs.Escape.{escaped_text, escaped_character}
use Rattle.kube_schema_values.proofs.Escapes.{next_double, next_held, next_free}
use Rattle.kube_schema_values.proofs.escaping.push_next.Goals as goal

pub returns-in_ok-push_str-in-true-eq95 : goal.returns-in_ok-push_str-in-true-eq95
returns-in_ok-push_str-in-true-eq95 c = λ rest.
    let before = string_bytes c.args.out.now in
    ap (λ s. s ++ escaped_text rest) c.in_ok-push_str-in-true-eq95.ensures.bytes ∙ append_assoc before (codes "__underscores__") (escaped_text rest) ∙ ap (λ s. before ++ s) (next_double c.args.holds_underscore c.args.character rest c.in-true-eq95.is-0 c.in-true-eq95.is-1)

pub returns-in_ok-push_character-in-true-default : goal.returns-in_ok-push_character-in-true-default
returns-in_ok-push_character-in-true-default c = λ rest.
    let before = string_bytes c.args.out.now in
    let here = c.in_ok-push_character-in-true-default.ensures ∙ ap (λ s. s ++ escaped_character c.args.character) c.in_ok-push_str-in-true-default.ensures.bytes ∙ append_assoc before (95 ∷ []) (escaped_character c.args.character) in
    ap (λ s. s ++ escaped_text rest) here ∙ append_assoc before (95 ∷ escaped_character c.args.character) (escaped_text rest) ∙ ap (λ s. before ++ s) (next_held c.args.holds_underscore c.args.character rest c.in-true-default.is-0 c.in-true-default.is-1.1)

pub returns-in_ok-push_character-in-false-default : goal.returns-in_ok-push_character-in-false-default
returns-in_ok-push_character-in-false-default c = λ rest.
    let before = string_bytes c.args.out.now in
    ap (λ s. s ++ escaped_text rest) c.in_ok-push_character-in-false-default.ensures ∙ append_assoc before (escaped_character c.args.character) (escaped_text rest) ∙ ap (λ s. before ++ s) (next_free c.args.holds_underscore c.args.character rest c.in-false-default.is-0 c.in-false-default.is-1.1)
