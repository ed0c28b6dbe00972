use Rattle.std.proofs.Common.{◌≡◌, ◌∷◌, ◌++◌, string_bytes, ◌∙◌, ap, arith}
use Rattle.std.specs.Prelude.{Some}
use Rattle.kube_types.proofs.Version.Texts.{one_text, two_texts, three_texts, no_parts, more_parts}
use Rattle.kube_types.proofs.versions.reading.full_text.Goals as goal

pub returns-in_ok-format-in-len1 : goal.returns-in_ok-format-in-len1
returns-in_ok-format-in-len1 c =
    ap Some c.in_ok-format-in-len1.ensures.ok
    ∙ one_text c.args.parts.now _ c.args.tail.now c.number_text-major.result.now (omega arith) (omega arith) c.number_text-major.ensures

pub returns-in_ok-format-in-len2 : goal.returns-in_ok-format-in-len2
returns-in_ok-format-in-len2 c =
    let major = c.number_text-major-in-len2.result.now in
    let minor = c.number_text-minor.result.now in
    let written : string_bytes c.in_ok-format-in-len2.field-0 ≡ major ++ (46 ∷ (minor ++ (46 ∷ 48 ∷ c.args.tail.now))) = c.in_ok-format-in-len2.ensures.ok in
    ap Some written
    ∙ two_texts c.args.parts.now _ c.args.tail.now major minor (omega arith) (omega arith) c.number_text-major-in-len2.ensures c.number_text-minor.ensures

pub returns-in_ok-format-in-len3 : goal.returns-in_ok-format-in-len3
returns-in_ok-format-in-len3 c =
    let major = c.number_text-major-in-len3.result.now in
    let minor = c.number_text-minor-in-len3.result.now in
    let patch = c.number_text-patch.result.now in
    let written : string_bytes c.in_ok-format-in-len3.field-0 ≡ major ++ (46 ∷ (minor ++ (46 ∷ (patch ++ c.args.tail.now)))) = c.in_ok-format-in-len3.ensures.ok in
    ap Some written
    ∙ three_texts c.args.parts.now _ c.args.tail.now major minor patch (omega arith) (omega arith)
    c.number_text-major-in-len3.ensures c.number_text-minor-in-len3.ensures c.number_text-patch.ensures

pub returns-in-empty : goal.returns-in-empty
returns-in-empty c = no_parts c.args.parts.now c.args.tail.now (omega arith)

pub returns-in-len4-up : goal.returns-in-len4-up
returns-in-len4-up c = more_parts c.args.parts.now c.args.tail.now (omega arith)
