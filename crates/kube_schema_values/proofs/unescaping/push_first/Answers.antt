use Rattle.std.proofs.Common.{◌≡◌, ◌++◌, ◌<◌, length, sym, ap, ◌∙◌, append_assoc, string_bytes, arith}
use Rattle.std.specs.Char.{encode_utf8}
use Rattle.std.proofs.lemmas.Str.{length-encode, len_utf8_bounds}
use Rattle.kube_schema_values.specs.Unescape.{unescaped_text}
use Rattle.kube_schema_values.proofs.Fronts.{shorter, kept_character}
use Rattle.kube_schema_values.proofs.unescaping.push_first.Goals as goal

pub returns : goal.returns
returns c =
    let t = c.args.text.now in
    let first = c.in-Some-next.character in
    let rest = c.as_str.result.now in
    let before = string_bytes c.args.name.now in
    let is : t ≡ encode_utf8 first ++ rest = sym c.chars-characters.ensures.rest ∙ c.in-Some-next.ensures.steps.0 ∙ ap (λ s. encode_utf8 first ++ s) (sym c.as_str.ensures) in
    let read = kept_character first t rest c.in_default.ensures is in
    let some : 0 < length (encode_utf8 first) = omega (arith, length-encode first, (len_utf8_bounds first).0) in
    (ap (λ s. s ++ unescaped_text 0 rest) c.in_ok-push.ensures.bytes ∙ append_assoc before (encode_utf8 first) (unescaped_text 0 rest) ∙ ap (λ s. before ++ s) (sym read), shorter (encode_utf8 first) t rest is some)
