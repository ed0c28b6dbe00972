use Rattle.std.proofs.Common.{◌≡◌, ap, subst, ◌∙◌, true, Some, List, ℕ}
use Rattle.std.specs.Prelude.{string_bytes}
use Rattle.std.specs.Str.{IsUtf8, is_utf8}
use Rattle.std.proofs.lemmas.Str.{IsUtf8-string_bytes}
use Rattle.cel_value.specs.Data.{Data, text}
use Rattle.cel_syntax_lexer.proofs.Texts.{is_text}
use Rattle.cel_syntax_lexer.proofs.string_value.content_value.Goals as goal

pub returns-in-Ok : goal.returns-in-Ok
returns-in-Ok c =
    let bytes : string_bytes c.in-Ok.text ≡ c.args.made.items = ap (λ v. v.items) c.in-Ok.ensures.ok in
    let utf8 : is_utf8 c.args.made.items ≡ true = is_text c.args.made.items (subst (λ (w : List ℕ). IsUtf8 w) bytes (IsUtf8-string_bytes c.in-Ok.text)) in
    rw (c.in-Text.is, utf8) (ap (λ (d : Data). Some d) (c.in_ok-from_text-in-Ok.ensures.value ∙ ap (λ (w : List ℕ). text w) bytes))
